use Rattle.std.proofs.Common.{Err, ap, subst, sym, ◌∙◌}
use Rattle.std.proofs.lemmas.Result.{err_from_is_err_and}
use Rattle.vx_command.specs.Done.{Held}
use Rattle.vx_command_center.specs.Runs.{CentersJournal, CentersSet}
use Rattle.vx_command_center.proofs.Asking.{items_unasked}
use Rattle.vx_command_center.proofs.Centered.{journal_done, journal_stopped}
use Rattle.vx_command_center.proofs.command.center_set.Goals as goal

pub returns-in_err-journal-clause-done : goal.returns-in_err-journal-clause-done
returns-in_err-journal-clause-done g c files told records kept =
    let err = err_from_is_err_and c.from_residual.result c.from_residual.ensures.1 in
    let taken = g.S.Sink.taken c.args.out.now in
    let held = g.K.Keeper.held c.args.keeper.now in
    let cause = c.in_err-journal.field-0.0 in
    let Set : Held → Type 0 = λ now. CentersSet c.args.election.now c.args.moment.now c.args.device.now c.args.items.now files records taken taken held now (Err cause) in
    rw (err.1 ∙ ap Err err.2)
    (subst Set (sym c.in_err-journal.ensures.held)
    (journal_stopped c.args.election.now c.args.moment.now c.args.device.now c.args.items.now files records taken taken held held
    c.lists_have_histories.ensures c.journals_in_order.ensures cause (c.in_err-journal.ensures.told records kept)))

pub returns-clause-done : goal.returns-clause-done
returns-clause-done g c files told records kept =
    let taken = g.S.Sink.taken c.args.out.now in
    let held = g.K.Keeper.held c.args.keeper.now in
    let taken_now = g.S.Sink.taken c.center_read.new.out in
    let held_now = g.K.Keeper.held c.center_read.new.keeper in
    let Read : Held → Type 0 = λ then. CentersJournal c.args.election.now c.in_ok-journal.journal c.args.moment.now c.args.device.now c.args.items.now files taken taken_now then held_now c.center_read.result in
    journal_done c.args.election.now c.args.moment.now c.args.device.now c.args.items.now files records taken taken_now held held_now
    c.journals_in_order.ensures c.in_ok-journal.journal c.center_read.result (c.in_ok-journal.ensures.told records kept)
    (subst Read c.in_ok-journal.ensures.held (c.center_read.ensures.done files told))

pub returns-in_err-journal-clause-asked : goal.returns-in_err-journal-clause-asked
returns-in_err-journal-clause-asked g c =
    let err = err_from_is_err_and c.from_residual.result c.from_residual.ensures.1 in
    rw (err.1 ∙ ap Err err.2)
    (items_unasked g.I.Inputs c.questions_asked.ensures c.args.items.now _)
