use Rattle.std.proofs.Common.{subst, sym}
use Rattle.vx_command.specs.Acts.{Outcome}
use Rattle.vx_command.specs.Done.{Held, IsDone}
use Rattle.vx_journal.specs.declared.journal.Journal.{Journal}
use Rattle.vx_journal.specs.Steps.{once_read}
use Rattle.vx_sampling.specs.Asked.{text_asked}
use Rattle.vx_sampling.specs.Drawn.{journal_outcome}
use Rattle.vx_sampling.proofs.walking.answer_journal.Goals as goal

pub returns-clause-done : goal.returns-clause-done
returns-clause-done g c files told records kept =
    let rest : Journal → Outcome = journal_outcome (text_asked c.args.asked) c.args.election.now (files c.args.hand.now) in
    let Done : Held → Type 0 = λ held. IsDone (once_read c.args.election.now records rest) (g.S.Sink.taken c.args.out.now) (g.S.Sink.taken c.answer_events-done.new.out)
    (g.K.Keeper.held c.args.keeper.now) held c.answer_events-done.result in
    subst Done (sym c.read_journal.ensures.held)
    (c.journals_in_order.ensures.read c.args.election.now records c.in_ok-journal.journal rest (g.S.Sink.taken c.args.out.now) (g.K.Keeper.held c.args.keeper.now)
    (c.in_ok-journal.ensures.told records kept) (g.S.Sink.taken c.answer_events-done.new.out) (g.K.Keeper.held c.args.keeper.now) c.answer_events-done.result
    (c.answer_events-done.ensures.done files told (g.K.Keeper.held c.args.keeper.now)))
