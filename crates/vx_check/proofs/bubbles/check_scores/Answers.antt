use Rattle.std.proofs.Common.{◌≡◌, ℕ, ap₂, sym, ◌∙◌, arith, below_more}
use Rattle.std.specs.Prelude.{slice_get, option_map, Ok}
use Rattle.std.proofs.lemmas.Result.{err_from_is_err_and}
use Rattle.vx_scan_model.specs.Reading.{bubble_score}
use Rattle.vx_check.specs.Tests.{score_tested}
use Rattle.vx_check.proofs.Codes.{scores-fail, scores-pass}
use Rattle.vx_check.proofs.bubbles.check_scores.Goals as goal

pub returns-in_err-check_score : goal.returns-in_err-check_score
returns-in_err-check_score c =
    let p = err_from_is_err_and c.from_residual.result c.from_residual.ensures.1 in
    rw (p.1, p.2) (sym (scores-fail c.args.counter.now c.args.border.now c.args.bubbles.now c.args.said.now c.loop-j.j _ c.loop-j.invariant (omega arith)
    (sym (c.in_err-check_score.ensures ∙ ap₂ (score_tested c.loop-j.j) c.said_score.ensures c.counted_score-counted.ensures))))

pub loop-j-preserved : goal.loop-j-preserved
loop-j-preserved c =
    let P : ℕ → Type 0 = λ i. score_tested i (slice_get c.args.said.now i) (option_map (bubble_score c.args.counter.now c.args.border.now) (slice_get c.args.bubbles.now i)) ≡ Ok tt in
    below_more P c.loop-j.j c.loop-j.invariant (sym (c.in_ok-check_score.ensures ∙ ap₂ (score_tested c.loop-j.j) c.said_score.ensures c.counted_score-counted.ensures))

pub returns : goal.returns
returns c = sym (scores-pass c.args.counter.now c.args.border.now c.args.bubbles.now c.args.said.now (λ i less. c.loop-j.invariant i (omega (arith, less))))
