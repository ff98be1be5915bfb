use Rattle.std.proofs.Common.{subst}
use Rattle.vx_command.specs.Done.{Held, IsDone}
use Rattle.vx_command_decide.specs.Outcome.{begun_outcome}
use Rattle.vx_command_decide.proofs.deciding.decide_for.Goals as goal

pub returns-clause-done : goal.returns-clause-done
returns-clause-done g c files told records kept =
    let Done : Held → Type 0 = λ held. IsDone (begun_outcome c.args.election.now (files c.args.script.now) c.in_ok-journal.journal) (g.S.Sink.taken c.args.out.now) (g.S.Sink.taken c.decide_begun-done.new.out) held (g.K.Keeper.held c.decide_begun-done.new.keeper) c.decide_begun-done.result in
    c.journals_in_order.ensures.read c.args.election.now records c.in_ok-journal.journal (begun_outcome c.args.election.now (files c.args.script.now)) (g.S.Sink.taken c.args.out.now) (g.K.Keeper.held c.args.keeper.now)
    (c.in_ok-journal.ensures.told records kept) (g.S.Sink.taken c.decide_begun-done.new.out) (g.K.Keeper.held c.decide_begun-done.new.keeper) c.decide_begun-done.result
    (subst Done c.read_journal.ensures.held (c.decide_begun-done.ensures.done files told))
