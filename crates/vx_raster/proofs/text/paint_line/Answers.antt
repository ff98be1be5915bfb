use Rattle.std.proofs.Common.{◌≡◌, ◌+◌, ◌<◌, [], ◌∷◌, ◌++◌, length, get_or, chars, ap, ◌∙◌, arith}
use Rattle.std.proofs.lemmas.Iterator.{YieldsList-from_chars}
use Rattle.std.proofs.lemmas.Iterator.Consumers.{YieldsList-turn, YieldsList-end}
use Rattle.std.proofs.lemmas.List.{length_push}
use Rattle.vx_plane.specs.Plane.{Pixels, painted}
use Rattle.vx_layout.specs.Print.{character_pixels, glyph_pixels}
use Rattle.vx_raster.proofs.Painted.{painted-next_of_family}
use Rattle.vx_raster.proofs.Lines.{next_character, painted-cut_line, painted-whole_line}
use Rattle.vx_raster.proofs.text.paint_line.Goals as goal

pub returns-then-x-right : goal.returns-then-x-right
returns-then-x-right c =
    let line = c.args.line.now in
    let n = length c.loop-c.yielded in
    let yielded = YieldsList-turn (YieldsList-from_chars c.as_str.result.now c.as_str.utf8 cc) c.loop-c.yielded _ c.loop-c.yielded_by _ _ c.in-Some.c c.in-Some.is c.next.ensures.steps in
    let turn : (n < length (chars line.text)) × (c.in-Some.c ≡ get_or (chars line.text) n c.in-Some.c) = rw c.as_str.ensures at yielded in
    c.loop-c.invariant.so_far ∙ painted-cut_line c.args.page.now line n turn.0 (omega arith)

pub loop-c-preserved : goal.loop-c-preserved
loop-c-preserved c =
    let line = c.args.line.now in
    let n = length c.loop-c.yielded in
    let yielded = YieldsList-turn (YieldsList-from_chars c.as_str.result.now c.as_str.utf8 cc) c.loop-c.yielded _ c.loop-c.yielded_by _ _ c.in-Some.c c.in-Some.is c.next.ensures.steps in
    let turn : (n < length (chars line.text)) × (c.in-Some.c ≡ get_or (chars line.text) n c.in-Some.c) = rw c.as_str.ensures at yielded in
    let pushed : length (c.loop-c.yielded ++ c.in-Some.c ∷ []) ≡ n + 1 = length_push c.loop-c.yielded c.in-Some.c in
    let glyph : c.paint_glyph.new.page ≡ painted c.loop-c.page (glyph_pixels c.in-Some.c c.loop-c.x line.y) = rw c.from-top.ensures at c.paint_glyph.ensures in
    record {
      at = omega arith;
      so_far = rw pushed (painted-next_of_family c.args.page.now c.loop-c.page _ n (character_pixels line) c.loop-c.invariant.so_far
          (glyph ∙ ap (λ (set : Pixels). painted c.loop-c.page set) (next_character line n c.in-Some.c c.loop-c.x turn c.loop-c.invariant.at)));
    }

pub returns : goal.returns
returns c =
    let line = c.args.line.now in
    let n = length c.loop-c.yielded in
    let ended = YieldsList-end (YieldsList-from_chars c.as_str.result.now c.as_str.utf8 cc) c.loop-c.yielded _ c.loop-c.yielded_by _ _ c.in-None.is c.next.ensures.steps in
    let all : n ≡ length (chars line.text) = rw c.as_str.ensures at ended.1 in
    c.loop-c.invariant.so_far ∙ painted-whole_line c.args.page.now line n all
