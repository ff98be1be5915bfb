use Rattle.std.proofs.Common.{◌≡◌, ℕ, ap₂, sym, ◌∙◌, arith, below_more}
use Rattle.std.specs.Prelude.{slice_get, Ok}
use Rattle.std.proofs.lemmas.Result.{err_from_is_err_and}
use Rattle.vx_check.specs.Tests.{state_tested}
use Rattle.vx_check.proofs.Codes.{states-fail, states-pass}
use Rattle.vx_check.proofs.bubbles.check_states.Goals as goal

pub returns-in_err-check_state : goal.returns-in_err-check_state
returns-in_err-check_state c =
    let p = err_from_is_err_and c.from_residual.result c.from_residual.ensures.1 in
    rw (p.1, p.2) (sym (states-fail c.args.thresholds c.args.bubbles c.args.scores.now c.args.said.now c.loop-j.j _ c.loop-j.invariant (omega arith)
    (sym (c.in_err-check_state.ensures ∙ ap₂ (state_tested c.args.thresholds c.loop-j.j) c.said_state.ensures c.said_score.ensures))))

pub loop-j-preserved : goal.loop-j-preserved
loop-j-preserved c =
    let P : ℕ → Type 0 = λ i. state_tested c.args.thresholds i (slice_get c.args.said.now i) (slice_get c.args.scores.now i) ≡ Ok tt in
    below_more P c.loop-j.j c.loop-j.invariant (sym (c.in_ok-check_state.ensures ∙ ap₂ (state_tested c.args.thresholds c.loop-j.j) c.said_state.ensures c.said_score.ensures))

pub returns : goal.returns
returns c = sym (states-pass c.args.thresholds c.args.bubbles c.args.scores.now c.args.said.now (λ i less. c.loop-j.invariant i (omega (arith, less))))
