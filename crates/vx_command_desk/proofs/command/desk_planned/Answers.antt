use Rattle.std.proofs.Common.{List}
use Rattle.vx_layout.specs.declared.plan.CardPlan.{CardPlan}
use Rattle.vx_command.specs.Elections.{plans_in}
use Rattle.vx_journal.specs.Steps.{once_read}
use Rattle.vx_command_desk.specs.Outcome.{page_outcome}
use Rattle.vx_command_desk.proofs.command.desk_planned.Goals as goal

pub returns-clause-done : goal.returns-clause-done
returns-clause-done g c files told records kept =
    c.steps_in_order.ensures.given (plans_in c.args.election.now) c.in_ok-plans.plans
    (λ (plans : List CardPlan). once_read c.args.election.now records (λ journal. page_outcome c.args.election.now c.args.batch.now c.args.scans.now files journal.center.events))
    (g.S.Sink.taken c.args.out.now) c.in_ok-plans.ensures.exact (g.K.Keeper.held c.args.keeper.now)
    (g.S.Sink.taken c.desk_read-done.new.out) (g.K.Keeper.held c.desk_read-done.new.keeper) c.desk_read-done.result
    (c.desk_read-done.ensures.done files told records kept)
