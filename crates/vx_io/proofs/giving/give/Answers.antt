use Rattle.std.proofs.Common.{◌∙◌, ℕ, true, arith, refl, subst}
use Rattle.std.proofs.lemmas.Grind.{common_steps}
use Rattle.std.proofs.lemmas.Result.{err_from_is_err_and}
use Rattle.vx_io.specs.Outside.{CountsFaults}
use Rattle.vx_io.proofs.Texts.{Took-further, TookFront-further}
use Rattle.vx_io.proofs.giving.give.Goals as goal

pub returns-in_err-count-clause-refused : goal.returns-in_err-count-clause-refused
returns-in_err-count-clause-refused g c =
    let p = err_from_is_err_and c.from_residual.result c.from_residual.ensures.1 in
    rw p.1 (TookFront-further _ _ _ _ c.loop-at.at c.loop-at.invariant.took c.in_err-count.ensures.refused)

pub returns-in_err-count-clause-cause : goal.returns-in_err-count-clause-cause
returns-in_err-count-clause-cause g c =
    let p = err_from_is_err_and c.from_residual.result c.from_residual.ensures.1 in
    rw p.1 (subst (λ (n : ℕ). CountsFaults true n (g.S.Sink.faults c.write.new.self)) c.loop-at.invariant.still c.in_err-count.ensures.cause)

pub loop-at-preserved : goal.loop-at-preserved
loop-at-preserved g c =
    record {
      within = grind (arith, common_steps, c.in_ok-count.ensures.within);
      took = Took-further _ _ _ _ c.loop-at.at _ c.loop-at.invariant.took c.in_ok-count.ensures.took;
      still = c.in_ok-count.ensures.cause.still refl ∙ c.loop-at.invariant.still;
    }
