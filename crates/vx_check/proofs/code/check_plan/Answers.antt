use Rattle.std.proofs.Common.{sym, ◌∙◌}
use Rattle.vx_check.proofs.Codes.{named-plan, plan-other, plan-none}
use Rattle.vx_check.proofs.code.check_plan.Goals as goal

pub returns-then-code-version_of : goal.returns-then-code-version_of
returns-then-code-version_of c = plan-other c.args.election.now c.args.code (λ e. c.if-code-version_of.true (e ∙ sym c.version_of.ensures.exact))

pub returns-in-Ok : goal.returns-in-Ok
returns-in-Ok c = named-plan c.args.election.now c.args.code c.in-Ok.plan.now (c.if-code-version_of.false ∙ c.version_of.ensures.exact) c.in-Ok.ensures

pub returns-in-Err : goal.returns-in-Err
returns-in-Err c = plan-none c.args.election.now c.args.code _ (c.if-code-version_of.false ∙ c.version_of.ensures.exact) c.in-Err.ensures
