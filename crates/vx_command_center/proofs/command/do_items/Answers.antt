use Rattle.std.proofs.Common.{List, subst}
use Rattle.vx_command_center.specs.declared.item.Item.{Item}
use Rattle.vx_command_center.specs.Runs.{CentersItems}
use Rattle.vx_command_center.proofs.command.do_items.Goals as goal

pub returns-clause-done : goal.returns-clause-done
returns-clause-done g c =
    let Done : List Item → Type 0 = λ items.
    CentersItems c.args.election.now c.args.journal c.args.moment.now c.args.device.now items (g.S.Sink.taken c.args.out.now) (g.S.Sink.taken c.do_all-answer.new.out) (g.K.Keeper.held c.args.keeper.now) (g.K.Keeper.held c.do_all-answer.new.keeper) c.do_all-answer.result in
    subst Done c.as_slice-lent.ensures c.do_all-answer.ensures.done
