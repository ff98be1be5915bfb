use Rattle.std.proofs.Common.{false, Err, ap, ◌∙◌}
use Rattle.std.proofs.lemmas.Result.{err_from_is_err_and}
use Rattle.vx_command_center.proofs.Asking.{election_asked, election_broken}
use Rattle.vx_command_center.proofs.Centered.{election_done, election_stopped}
use Rattle.vx_command_center.proofs.command.center.Goals as goal

pub returns-in_err-given-clause-done : goal.returns-in_err-given-clause-done
returns-in_err-given-clause-done g c files told records kept =
    let err = err_from_is_err_and c.from_residual.result c.from_residual.ensures.1 in
    let taken = g.S.Sink.taken c.args.out.now in
    let held = g.K.Keeper.held c.args.keeper.now in
    rw (err.1 ∙ ap Err err.2)
    (election_stopped c.steps_in_order.ensures c.args.election.now c.args.moment.now c.args.device.now c.args.items.now files records taken taken held held
    c.lists_have_histories.ensures c.in_err-given.field-0.0 (c.in_err-given.ensures.told files told))

pub returns-clause-done : goal.returns-clause-done
returns-clause-done g c files told records kept =
    election_done c.steps_in_order.ensures c.args.election.now c.args.moment.now c.args.device.now c.args.items.now files records (g.S.Sink.taken c.args.out.now) (g.S.Sink.taken c.center_planned-done.new.out) (g.K.Keeper.held c.args.keeper.now) (g.K.Keeper.held c.center_planned-done.new.keeper)
    c.in_ok-given.given c.center_planned-done.result (c.in_ok-given.ensures.told files told) (c.center_planned-done.ensures.done files (c.in_ok-given.ensures.inputs.inputs.same ∙ told) records kept)

pub returns-in_err-given-clause-asked : goal.returns-in_err-given-clause-asked
returns-in_err-given-clause-asked g c =
    let err = err_from_is_err_and c.from_residual.result c.from_residual.ensures.1 in
    rw (err.1 ∙ ap Err err.2)
    (election_broken g.I.Inputs c.args.election.now c.args.items.now _ _ false c.in_err-given.ensures.asked)

pub returns-clause-asked : goal.returns-clause-asked
returns-clause-asked g c =
    election_asked g.I.Inputs c.questions_asked.ensures c.args.election.now c.args.items.now _ _ _ _ c.in_ok-given.ensures.asked c.center_planned-done.ensures.asked
