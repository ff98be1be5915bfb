use Rattle.std.proofs.Common.{Err, ap, ◌∙◌}
use Rattle.std.proofs.lemmas.Result.{err_from_is_err_and}
use Rattle.vx_command_center.proofs.Asking.{items_unasked}
use Rattle.vx_command_center.proofs.Centered.{cards_done, cards_stopped}
use Rattle.vx_command_center.proofs.command.center_planned.Goals as goal

pub returns-in_err-plans-clause-done : goal.returns-in_err-plans-clause-done
returns-in_err-plans-clause-done g c files told records kept =
    let err = err_from_is_err_and c.from_residual.result c.from_residual.ensures.1 in
    let taken = g.S.Sink.taken c.args.out.now in
    let held = g.K.Keeper.held c.args.keeper.now in
    rw (err.1 ∙ ap Err err.2)
    (cards_stopped c.args.election.now c.args.moment.now c.args.device.now c.args.items.now files records taken taken held held
    c.lists_have_histories.ensures c.steps_in_order.ensures c.in_err-plans.field-0.0 c.in_err-plans.ensures.exact)

pub returns-clause-done : goal.returns-clause-done
returns-clause-done g c files told records kept =
    cards_done c.args.election.now c.args.moment.now c.args.device.now c.args.items.now files records (g.S.Sink.taken c.args.out.now) (g.S.Sink.taken c.center_set-done.new.out) (g.K.Keeper.held c.args.keeper.now) (g.K.Keeper.held c.center_set-done.new.keeper)
    c.steps_in_order.ensures c.in_ok-plans.plans c.center_set-done.result c.in_ok-plans.ensures.exact (c.center_set-done.ensures.done files told records kept)

pub returns-in_err-plans-clause-asked : goal.returns-in_err-plans-clause-asked
returns-in_err-plans-clause-asked g c =
    let err = err_from_is_err_and c.from_residual.result c.from_residual.ensures.1 in
    rw (err.1 ∙ ap Err err.2)
    (items_unasked g.I.Inputs c.questions_asked.ensures c.args.items.now _)
