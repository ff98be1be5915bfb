use Rattle.std.proofs.Common.{◌≡◌, ◌+◌, ◌-◌, ◌*◌, ◌/◌, ◌%◌, ◌++◌, ◌∷◌, [], ℕ, List, take, drop, map, ap, sym, ◌∙◌, arith, rules}
use Rattle.std.specs.List.{range_with_len}
use Rattle.std.specs.Str.{chars}
use Rattle.std.proofs.lemmas.List.{drop-drop}
use Rattle.std.proofs.lemmas.Str.{chars-encodes, encodes-chars, scalars-chars}
use lib.Utf8.{encodes}
use Rattle.vx_layout.proofs.Bytes.{scalars-drop}
use Rattle.vx_base.proofs.Ranges.{map-laid}
use Rattle.vx_grid.specs.Grid.{x_of, y_of}
use Rattle.vx_grid.proofs.Papers.{last-row_high}
use Rattle.vx_layout.specs.Lines.{lines_of, placed_line, lines_at}
use Rattle.vx_layout.proofs.typing.lay_text.Goals as goal

pub overflow_cast-count : goal.overflow_cast-count
overflow_cast-count c = omega (arith, c.characters_of.ensures, c.requires.rows, last-row_high c.args.paper)

pub put_line-requires-clause-row : goal.put_line-requires-clause-row
put_line-requires-clause-row c = omega (arith, c.characters_of.ensures, c.requires.rows, c.loop-k-test.true)

pub loop-k-init : goal.loop-k-init
loop-k-init c = record { lines = search rules; rest = sym (encodes-chars c.args.text.now c.utf8.text) }

pub cut_line-requires-text-text : goal.cut_line-requires-text-text
cut_line-requires-text-text c κs =
    let cs = chars c.args.text.now in
    (drop (c.loop-k.k * 29) cs, (scalars-drop (c.loop-k.k * 29) cs (scalars-chars c.args.text.now c.utf8.text), sym c.loop-k.invariant.rest))

pub loop-k-preserved : goal.loop-k-preserved
loop-k-preserved c =
    let cs = chars c.args.text.now in
    let k = c.loop-k.k in
    let next : k * 29 + 29 ≡ (k + 1) * 29 = omega arith in
    let left : chars c.loop-k.rest.now ≡ drop (k * 29) cs =
    ap chars c.loop-k.invariant.rest ∙ chars-encodes (drop (k * 29) cs) (scalars-drop (k * 29) cs (scalars-chars c.args.text.now c.utf8.text)) in
    let line = c.in_ok-from_str.ensures ∙ c.cut_line.ensures.line ∙ ap (λ (rest : List ℕ). encodes (take 29 rest)) left in
    record {
      lines =
          map-laid (placed_line c.args.paper c.args.col c.args.row c.args.text.now) c.args.texts.now c.loop-k.texts c.put_line.new.texts k c.loop-k.invariant.lines
          (c.in_ok-put_line.ensures
          ∙ ap (λ (t : List ℕ). c.loop-k.texts ++ (record { x = x_of c.args.col + 40; y = y_of c.args.paper (c.args.row + k / 2) - 18 + 20 * (k % 2); text = t }) ∷ []) line);
      rest =
          c.cut_line.ensures.rest
          ∙ ap (λ (rest : List ℕ). encodes (drop 29 rest)) left
          ∙ ap encodes (drop-drop 29 (k * 29) cs ∙ ap (λ (n : ℕ). drop n cs) next);
    }

pub returns : goal.returns
unfolding lines_at
returns c =
    let all : c.loop-k.k ≡ lines_of c.args.text.now = omega (arith, c.characters_of.ensures, c.loop-k-test.false) in
    c.loop-k.invariant.lines
    ∙ ap (λ (n : ℕ). c.args.texts.now ++ map (placed_line c.args.paper c.args.col c.args.row c.args.text.now) (range_with_len 0 n)) all
