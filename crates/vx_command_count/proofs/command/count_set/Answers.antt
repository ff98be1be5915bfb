use Rattle.std.proofs.Common.{subst}
use Rattle.vx_command.specs.Done.{Held, IsDone}
use Rattle.vx_command_count.specs.Outcome.{journal_outcome}
use Rattle.vx_command_count.proofs.command.count_set.Goals as goal

pub returns-clause-done : goal.returns-clause-done
returns-clause-done g c files told records kept =
    let Done : Held → Type 0 = λ held.
    IsDone (journal_outcome c.args.setting.now.election.now c.args.setting.now.batch.now c.args.scans.now files c.in_ok-journal.journal)
    (g.S.Sink.taken c.args.out.now) (g.S.Sink.taken c.count_into.new.out) held (g.K.Keeper.held c.count_into.new.keeper) c.count_into.result in
    c.journals_in_order.ensures.read c.args.setting.now.election.now records c.in_ok-journal.journal
    (journal_outcome c.args.setting.now.election.now c.args.setting.now.batch.now c.args.scans.now files)
    (g.S.Sink.taken c.args.out.now) (g.K.Keeper.held c.args.keeper.now) (c.in_ok-journal.ensures.told records kept)
    (g.S.Sink.taken c.count_into.new.out) (g.K.Keeper.held c.count_into.new.keeper) c.count_into.result
    (subst Done c.in_ok-journal.ensures.held (c.count_into.ensures.done files told))
