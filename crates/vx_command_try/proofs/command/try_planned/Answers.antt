use Rattle.std.proofs.Common.{List, subst}
use Rattle.vx_election_model.specs.declared.election.Election.{Election}
use Rattle.vx_layout.specs.declared.plan.CardPlan.{CardPlan}
use Rattle.vx_command.specs.Done.{IsWritten}
use Rattle.vx_command.specs.Elections.{plans_in}
use Rattle.vx_command_try.specs.Outcome.{tried_outcome}
use Rattle.vx_command_try.proofs.command.try_planned.Goals as goal

pub returns-clause-done : goal.returns-clause-done
returns-clause-done g c files told held =
    let Of : Election → Type 0 = λ election.
    IsWritten (tried_outcome election files c.args.scans.now) (g.S.Sink.taken c.args.out.now) (g.S.Sink.taken c.try_scans-done.new.out) c.try_scans-done.result in
    c.steps_in_order.ensures.given (plans_in c.args.election.now) c.in_ok-plans.plans
    (λ (plans : List CardPlan). tried_outcome c.args.election.now files c.args.scans.now)
    (g.S.Sink.taken c.args.out.now) c.in_ok-plans.ensures.exact held (g.S.Sink.taken c.try_scans-done.new.out) held c.try_scans-done.result
    (subst Of c.set_up-setting.ensures.election (c.try_scans-done.ensures.done files told) held)
