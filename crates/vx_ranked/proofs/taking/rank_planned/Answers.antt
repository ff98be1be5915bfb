use Rattle.std.proofs.Common.{◌∙◌, List, Err, ap}
use Rattle.std.proofs.lemmas.Result.{err_from_is_err_and}
use Rattle.vx_layout.specs.declared.plan.CardPlan.{CardPlan}
use Rattle.vx_command.specs.Elections.{plans_in}
use Rattle.vx_ranked.specs.Outcome.{RankedOutcome, journal_outcome, planned_outcome}
use Rattle.vx_ranked.proofs.Acts.{comes_done, gone_on, not_given}
use Rattle.vx_ranked.proofs.Stops.{plan_stops}
use Rattle.vx_ranked.proofs.taking.rank_planned.Goals as goal

pub returns-in_err-plans-clause-done : goal.returns-in_err-plans-clause-done
returns-in_err-plans-clause-done g c files told records kept =
    let err = err_from_is_err_and c.from_residual.result c.from_residual.ensures.1 in
    let election = c.args.election.now in
    let planned : List CardPlan → RankedOutcome = λ plans. journal_outcome election plans (files c.args.ranked.now) records in
    rw (err.1 ∙ ap Err err.2)
    (not_given c.steps_in_order.ensures (plans_in election) planned (g.S.Sink.taken c.args.out.now) (g.K.Keeper.held c.args.keeper.now) _
    c.in_err-plans.ensures.exact)

pub returns-clause-done : goal.returns-clause-done
returns-clause-done g c files told records kept =
    let election = c.args.election.now in
    let file = files c.args.ranked.now in
    let plans = c.in_ok-plans.plans in
    let planned : List CardPlan → RankedOutcome = λ some. journal_outcome election some file records in
    let out = g.S.Sink.taken c.args.out.now in
    let held = g.K.Keeper.held c.args.keeper.now in
    comes_done (planned_outcome election file records) (planned plans) out out (g.S.Sink.taken c.rank_journal-done.new.out) held held
    (g.K.Keeper.held c.rank_journal-done.new.keeper) c.rank_journal-done.result
    (gone_on c.steps_in_order.ensures (plans_in election) planned out held plans c.in_ok-plans.ensures.exact)
    (c.rank_journal-done.ensures.done files told records kept)

pub returns-in_err-plans-clause-stops : goal.returns-in_err-plans-clause-stops
returns-in_err-plans-clause-stops g c =
    let err = err_from_is_err_and c.from_residual.result c.from_residual.ensures.1 in
    rw (err.1 ∙ ap Err err.2) (plan_stops c.in_err-plans.field-0.0 c.in_err-plans.ensures.halts)
