use Rattle.vx_command_center.proofs.Asking.{items_ended}
use Rattle.vx_command_center.proofs.Centered.{items_done, items_stopped}
use Rattle.vx_command_center.proofs.command.center_read.Goals as goal

pub returns-in-Err-clause-done : goal.returns-in-Err-clause-done
returns-in-Err-clause-done g c files told =
    items_stopped c.args.election.now c.args.moment.now c.args.device.now c.args.items.now files c.args.journal (g.S.Sink.taken c.args.out.now) (g.S.Sink.taken c.args.out.now) (g.K.Keeper.held c.args.keeper.now) (g.K.Keeper.held c.args.keeper.now)
    c.lists_have_histories.ensures c.in-Err.halt (c.in-Err.ensures.told files told)

pub returns-in-Ok-clause-done : goal.returns-in-Ok-clause-done
returns-in-Ok-clause-done g c files told =
    items_done c.args.election.now c.args.moment.now c.args.device.now c.args.items.now files c.args.journal (g.S.Sink.taken c.args.out.now) (g.S.Sink.taken c.do_items.new.out) (g.K.Keeper.held c.args.keeper.now) (g.K.Keeper.held c.do_items.new.keeper)
    c.in-Ok.taken c.do_items.result (c.in-Ok.ensures.told files told) c.do_items.ensures.done

pub returns-in-Ok-clause-asked : goal.returns-in-Ok-clause-asked
returns-in-Ok-clause-asked g c = items_ended g.I.Inputs c.args.items.now _ _ _ c.in-Ok.ensures.asked
