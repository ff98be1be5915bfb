use Rattle.std.proofs.Common.{ℕ, List, subst, sym}
use Rattle.vx_election_model.specs.declared.election.Election.{Election}
use Rattle.vx_events.specs.declared.event.Event.{Event}
use Rattle.vx_command.specs.Acts.{Outcome}
use Rattle.vx_command.specs.Done.{Held, IsDone, IsWritten}
use Rattle.vx_journal.specs.declared.journal.Journal.{Journal}
use Rattle.vx_journal.specs.Steps.{once_read}
use Rattle.vx_command_desk.specs.Outcome.{page_outcome}
use Rattle.vx_command_desk.proofs.command.desk_read.Goals as goal

pub returns-clause-done : goal.returns-clause-done
returns-clause-done g c files told records kept =
    let rest : Journal → Outcome = λ journal. page_outcome c.args.election.now c.args.batch.now c.args.scans.now files journal.center.events in
    let Done : Held → Type 0 = λ held. IsDone (once_read c.args.election.now records rest) (g.S.Sink.taken c.args.out.now) (g.S.Sink.taken c.write_page-done.new.out)
    (g.K.Keeper.held c.args.keeper.now) held c.write_page-done.result in
    let Page : Election → List ℕ → List Event → Type 0 = λ election batch events.
    IsWritten (page_outcome election batch c.args.scans.now files events) (g.S.Sink.taken c.args.out.now) (g.S.Sink.taken c.write_page-done.new.out) c.write_page-done.result in
    let set = c.set_up-setting.result in
    let OfElection : Election → Type 0 = λ election. Page election set.batch.now set.center.now.events in
    let OfBatch : List ℕ → Type 0 = λ batch. Page c.args.election.now batch set.center.now.events in
    let OfEvents : List Event → Type 0 = λ events. Page c.args.election.now c.args.batch.now events in
    let written =
    subst OfEvents c.set_up-setting.ensures.events
    (subst OfBatch c.set_up-setting.ensures.batch (subst OfElection c.set_up-setting.ensures.election (c.write_page-done.ensures.done files told))) in
    subst Done (sym c.read_journal.ensures.held)
    (c.journals_in_order.ensures.read c.args.election.now records c.in_ok-journal.journal rest (g.S.Sink.taken c.args.out.now) (g.K.Keeper.held c.args.keeper.now)
    (c.in_ok-journal.ensures.told records kept) (g.S.Sink.taken c.write_page-done.new.out) (g.K.Keeper.held c.args.keeper.now) c.write_page-done.result
    (written (g.K.Keeper.held c.args.keeper.now)))
