use Rattle.std.proofs.Common.{Err, ap, ◌∙◌}
use Rattle.std.proofs.lemmas.Result.{err_from_is_err_and}
use Rattle.vx_command_center.proofs.Centered.{acts_by, items_ended, items_have_no_memory}
use Rattle.vx_command_center.proofs.Ended.{late_of}
use Rattle.vx_command_center.proofs.command.do_all.Goals as goal

pub returns-in_err-ended-clause-done : goal.returns-in_err-ended-clause-done
returns-in_err-ended-clause-done g c =
    let err = err_from_is_err_and c.from_residual.result c.from_residual.ensures.1 in
    rw (err.1 ∙ ap Err err.2)
    (items_have_no_memory c.args.election.now c.args.moment.now c.args.device.now c.lists_have_histories.ensures c.acts_in_order.ensures c.args.journal c.args.items.now (g.S.Sink.taken c.args.out.now) (g.K.Keeper.held c.args.keeper.now))

pub returns-clause-done : goal.returns-clause-done
returns-clause-done g c =
    items_ended c.args.election.now c.args.moment.now c.args.device.now c.args.journal c.args.items.now c.in_ok-ended.ended (g.S.Sink.taken c.args.out.now) (g.S.Sink.taken c.end_center-answer.new.out) (g.K.Keeper.held c.args.keeper.now) (g.K.Keeper.held c.end_center-answer.new.keeper) c.end_center-answer.result
    c.requires.same c.in_ok-ended.ensures c.end_center-answer.ensures.done

pub returns-clause-late : goal.returns-clause-late
returns-clause-late g c =
    late_of (acts_by c.args.election.now c.args.moment.now c.args.device.now c.in_ok-ended.ended.history c.in_ok-ended.ended.journal c.in_ok-ended.ended.text)
    (g.S.Sink.taken c.args.out.now) (g.S.Sink.taken c.end_center-answer.new.out) (g.K.Keeper.held c.args.keeper.now) (g.K.Keeper.held c.end_center-answer.new.keeper) c.end_center-answer.result
    c.end_center-answer.ensures.devices.no_read_fault c.end_center-answer.ensures.done
