use Rattle.std.proofs.Common.{◌≡◌, ◌-◌, ℕ, arith, sym, ap, subst, ◌∙◌, Err}
use Rattle.std.proofs.lemmas.Result.{err_from_is_err_and}
use Rattle.vx_base.proofs.Results.{Unless-always}
use Rattle.vx_readings.specs.declared.bubbles.SaidBubbles.{SaidBubbles}
use Rattle.vx_readings.specs.Faults.{is_no_memory}
use Rattle.vx_readings.specs.Lines.{bubble_or_end}
use Rattle.vx_readings.specs.Readings.{next_line}
use Rattle.vx_readings.proofs.ReadBubbles.{BubblesTo, bubbles-fault, bubbles-end, bubbles-more}
use Rattle.vx_readings.proofs.bubbles.read_bubbles.Goals as goal

pub returns-in_err-bubble : goal.returns-in_err-bubble
returns-in_err-bubble c =
    let err = err_from_is_err_and c.from_residual.result c.from_residual.ensures.1 in
    let same : c.bubbles.rest.number - c.args.left.now.number ≡ c.number.result - c.number-first.result = omega (arith, c.number.ensures, c.number-first.ensures) in
    let next = λ (n : ℕ). next_line (bubble_or_end n) c.bubbles.rest.number c.bubbles.rest.lines in
    rw (err.1 ∙ ap Err err.2)
    (Unless-always (is_no_memory c.in_err-bubble.field-0.0)
    (bubbles-fault c.args.left.now c.bubbles.said c.bubbles.rest c.bubbles.invariant c.in_err-bubble.field-0.0
    (ap next same ∙ sym c.next_bubble.ensures ∙ c.in_err-bubble.was)))

pub returns-in-None : goal.returns-in-None
returns-in-None c =
    let same : c.bubbles.rest.number - c.args.left.now.number ≡ c.number.result - c.number-first.result = omega (arith, c.number.ensures, c.number-first.ensures) in
    let next = λ (n : ℕ). next_line (bubble_or_end n) c.bubbles.rest.number c.bubbles.rest.lines in
    bubbles-end c.args.left.now c.bubbles.said c.bubbles.rest c.bubbles.invariant c.in_ok-bubble.behind
    (ap next same ∙ sym c.next_bubble.ensures ∙ c.in_ok-bubble.was ∙ rw c.in-None.is)

pub bubbles-preserved : goal.bubbles-preserved
bubbles-preserved c =
    let same : c.bubbles.rest.number - c.args.left.now.number ≡ c.number.result - c.number-first.result = omega (arith, c.number.ensures, c.number-first.ensures) in
    let next = λ (n : ℕ). next_line (bubble_or_end n) c.bubbles.rest.number c.bubbles.rest.lines in
    let To : SaidBubbles → Type 0 = λ said. BubblesTo c.args.left.now said c.in_ok-bubble.behind in
    subst To (sym c.in_ok-push-in-Some.ensures)
    (bubbles-more c.args.left.now c.bubbles.said c.bubbles.rest c.bubbles.invariant c.in-Some.bubble c.in_ok-bubble.behind
    (ap next same ∙ sym c.next_bubble.ensures ∙ c.in_ok-bubble.was ∙ rw c.in-Some.is))
