use Rattle.std.proofs.Common.{ℕ, List, subst}
use Rattle.vx_election_model.specs.declared.election.Election.{Election}
use Rattle.vx_layout.specs.declared.plan.CardPlan.{CardPlan}
use Rattle.vx_command.specs.Done.{IsDone}
use Rattle.vx_command.specs.Elections.{plans_in}
use Rattle.vx_journal.specs.Steps.{once_read}
use Rattle.vx_command_count.specs.Outcome.{journal_outcome}
use Rattle.vx_command_count.proofs.command.count_planned.Goals as goal

pub returns-clause-done : goal.returns-clause-done
returns-clause-done g c files told records kept =
    let Done : Election → List ℕ → Type 0 = λ election batch.
    IsDone (once_read election records (journal_outcome election batch c.args.scans.now files))
    (g.S.Sink.taken c.args.out.now) (g.S.Sink.taken c.count_set-done.new.out) (g.K.Keeper.held c.args.keeper.now) (g.K.Keeper.held c.count_set-done.new.keeper) c.count_set-done.result in
    let Of : Election → Type 0 = λ election. Done election c.set_up-setting.result.batch.now in
    c.steps_in_order.ensures.given (plans_in c.args.election.now) c.in_ok-plans.plans
    (λ (plans : List CardPlan). once_read c.args.election.now records (journal_outcome c.args.election.now c.args.batch.now c.args.scans.now files))
    (g.S.Sink.taken c.args.out.now) c.in_ok-plans.ensures.exact (g.K.Keeper.held c.args.keeper.now)
    (g.S.Sink.taken c.count_set-done.new.out) (g.K.Keeper.held c.count_set-done.new.keeper) c.count_set-done.result
    (subst (Done c.args.election.now) c.set_up-setting.ensures.batch (subst Of c.set_up-setting.ensures.election (c.count_set-done.ensures.done files told records kept)))
