use Rattle.std.proofs.Common.{subst, sym}
use Rattle.vx_command.specs.Acts.{Outcome, writing}
use Rattle.vx_command.specs.Done.{Held, IsDone}
use Rattle.vx_journal.specs.declared.journal.Journal.{Journal}
use Rattle.vx_journal.specs.Steps.{once_read}
use Rattle.vx_account.proofs.giving.account_of.Goals as goal

pub returns-clause-done : goal.returns-clause-done
returns-clause-done g c records told =
    let rest : Journal → Outcome = λ journal. writing (g.A.Account.says c.args.account.now c.args.election.now journal.center.events) in
    let Done : Held → Type 0 = λ held. IsDone (once_read c.args.election.now records rest) (g.S.Sink.taken c.args.out.now) (g.S.Sink.taken c.write_account-done.new.out)
    (g.K.Keeper.held c.args.keeper.now) held c.write_account-done.result in
    subst Done (sym c.read_journal.ensures.held)
    (c.journals_in_order.ensures.read c.args.election.now records c.in_ok-journal.journal rest (g.S.Sink.taken c.args.out.now) (g.K.Keeper.held c.args.keeper.now)
    (c.in_ok-journal.ensures.told records told) (g.S.Sink.taken c.write_account-done.new.out) (g.K.Keeper.held c.args.keeper.now) c.write_account-done.result
    (c.write_account-done.ensures.done (g.K.Keeper.held c.args.keeper.now)))
