use Rattle.std.proofs.Common.{◌∙◌, Err, ap}
use Rattle.std.proofs.lemmas.Result.{err_from_is_err_and}
use Rattle.vx_journal.specs.declared.journal.Journal.{Journal}
use Rattle.vx_ranked.specs.Outcome.{RankedOutcome, file_outcome, journal_outcome}
use Rattle.vx_ranked.proofs.Acts.{comes_done, not_read, read}
use Rattle.vx_ranked.proofs.Stops.{reading_stops}
use Rattle.vx_ranked.proofs.taking.rank_journal.Goals as goal

pub returns-in_err-journal-clause-done : goal.returns-in_err-journal-clause-done
returns-in_err-journal-clause-done g c files told records kept =
    let err = err_from_is_err_and c.from_residual.result c.from_residual.ensures.1 in
    let rest : Journal → RankedOutcome = λ journal. file_outcome c.args.election.now c.args.plans.now journal.center.events (files c.args.ranked.now) in
    rw (err.1 ∙ ap Err err.2, c.read_journal.ensures.held)
    (not_read c.journals_in_order.ensures c.args.election.now records rest (g.S.Sink.taken c.args.out.now) (g.K.Keeper.held c.args.keeper.now) _
    (c.in_err-journal.ensures.told records kept))

pub returns-clause-done : goal.returns-clause-done
returns-clause-done g c files told records kept =
    let election = c.args.election.now in
    let plans = c.args.plans.now in
    let file = files c.args.ranked.now in
    let rest : Journal → RankedOutcome = λ journal. file_outcome election plans journal.center.events file in
    let held = g.K.Keeper.held c.args.keeper.now in
    rw c.read_journal.ensures.held
    (comes_done (journal_outcome election plans file records) (rest c.in_ok-journal.journal) (g.S.Sink.taken c.args.out.now)
    (g.S.Sink.taken c.args.out.now) (g.S.Sink.taken c.rank_file-done.new.out) held held held c.rank_file-done.result
    (read c.journals_in_order.ensures election records rest (g.S.Sink.taken c.args.out.now) held c.in_ok-journal.journal
    (c.in_ok-journal.ensures.told records kept))
    (c.rank_file-done.ensures.done files told held))

pub returns-in_err-journal-clause-stops : goal.returns-in_err-journal-clause-stops
returns-in_err-journal-clause-stops g c =
    let err = err_from_is_err_and c.from_residual.result c.from_residual.ensures.1 in
    rw (err.1 ∙ ap Err err.2) (reading_stops c.in_err-journal.field-0.0 c.in_err-journal.ensures.halts)
