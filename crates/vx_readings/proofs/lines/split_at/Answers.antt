use Rattle.std.proofs.Common.{◌<◌, ◌+◌, ◌∷◌, ℕ, List, length, drop, take, get_or, ap, ◌∙◌, arith, add-one, le_refl, sym}
use Rattle.std.proofs.lemmas.Slice.{between_to_end}
use Rattle.vx_base.proofs.Numbers.{equal-yes}
use Rattle.vx_readings.specs.Parts.{parts_of}
use Rattle.vx_readings.proofs.Parts.{parts_of-none, parts_of-first, none_after}
use Rattle.vx_readings.proofs.lines.split_at.Goals as goal

pub loop-place-init : goal.loop-place-init
loop-place-init c = λ k below is. absurd (omega (arith, below))

pub returns-then-text-place : goal.returns-then-text-place
returns-then-text-place c =
    let text = c.args.text.now in
    let place = c.loop-place.place in
    let small : place < length text = c.loop-place-test.true in
    parts_of-first c.args.at place text small c.loop-place.invariant (equal-yes (get_or text place 0) c.args.at c.if-text-place.true)
    ∙ ap (λ (rest : List ℕ). take place text ∷ parts_of c.args.at rest)
    (ap (λ (n : ℕ). drop n text) (sym (add-one place)) ∙ sym (between_to_end text (place + 1) (length text) (le_refl (length text))))

pub loop-place-preserved : goal.loop-place-preserved
loop-place-preserved c = none_after c.args.at c.args.text.now c.loop-place.place c.loop-place.invariant c.if-text-place.false

pub returns : goal.returns
returns c =
    parts_of-none c.args.at c.args.text.now
    (λ k small is. c.loop-place.invariant k (omega (arith, small, c.loop-place-test.false)) is)
