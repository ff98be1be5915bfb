use Rattle.std.proofs.Common.{◌≡◌, ◌<◌, ◌≤◌, ◌++◌, ◌∷◌, [], ℕ, List, length, take, string_bytes, sym, ap, ◌∙◌, append_assoc, arith}
use Rattle.std.proofs.lemmas.List.{take_all}
use Rattle.vx_grid.specs.Marks.{marks}
use Rattle.vx_readings.specs.ReadingText.{place_word, border_line}
use Rattle.vx_base.proofs.Lists.{flat_map-take_more}
use Rattle.vx_base.proofs.Results.{OnOk-pushed}
use Rattle.vx_readings.proofs.ReadingTexts.{laid_places, border_line-laid}
use Rattle.vx_readings.proofs.writing.push_border.Goals as goal

pub at-place-requires : goal.at-place-requires
at-place-requires c =
    let count : c.marks-k-end.result ≡ marks c.args.border.now.paper = c.marks-k-end.ensures.exact ∙ ap marks c.paper.ensures in
    omega (arith, count)

pub loop-k-preserved : goal.loop-k-preserved
loop-k-preserved c =
    let border = c.args.border.now.places in
    let begun = string_bytes c.push_str.new.self in
    let place = c.at-place.result in
    let so_far = laid_places (take c.loop-k.k border) in
    record {
      laid =
          c.in_ok-write.ensures.bytes
          ∙ ap (λ (text : List ℕ). text ++ 32 ∷ place_word place) c.loop-k.invariant.laid
          ∙ append_assoc begun so_far (32 ∷ place_word place)
          ∙ ap (λ (text : List ℕ). begun ++ text) (sym (flat_map-take_more (λ p. 32 ∷ place_word p) border c.loop-k.k place c.at-place.ensures.place));
      all = λ _. c.at-place.ensures.all;
    }

pub returns : goal.returns
returns c =
    let border = c.args.border.now.places in
    let count : c.marks-k-end.result ≡ marks c.args.border.now.paper = c.marks-k-end.ensures.exact ∙ ap marks c.paper.ensures in
    let some : 0 < c.loop-k.k = omega (arith, c.marks-k-end.ensures.bound.0) in
    let many : length border ≤ c.loop-k.k = omega (arith, c.loop-k.invariant.all some, count) in
    OnOk-pushed c.push_str-2.result (string_bytes c.loop-k.text) (10 ∷ []) (string_bytes c.push_str-2.new.self) (string_bytes c.args.text.now ++ border_line border)
    c.push_str-2.ensures.bytes
    (border_line-laid (string_bytes c.args.text.now) (string_bytes c.push_str.new.self) (string_bytes c.loop-k.text) border c.loop-k.k
    c.in_ok-push_str.ensures.bytes c.loop-k.invariant.laid (take_all c.loop-k.k border many))
