use Rattle.std.proofs.Common.{[], ℕ, List, Err, ap, subst, ◌∙◌}
use Rattle.std.proofs.lemmas.Result.{err_from_is_err_and}
use Rattle.vx_command.specs.Done.{IsDone}
use Rattle.vx_journal.specs.Keeping.{begin_acts}
use Rattle.vx_command_count.specs.Outcome.{scans_outcome}
use Rattle.vx_command_count.proofs.SheetActs.{late-of}
use Rattle.vx_command_count.proofs.command.count_begun.Goals as goal

pub returns-in_err-begin_journal-clause-done : goal.returns-in_err-begin_journal-clause-done
returns-in_err-begin_journal-clause-done g c files told =
    let err = err_from_is_err_and c.from_residual.result c.from_residual.ensures.1 in
    rw (err.1 ∙ ap Err err.2)
    (c.acts_in_order.ensures.broken (begin_acts c.args.counting.now.journal)
    (scans_outcome c.args.setting.now.election.now c.args.setting.now.batch.now files 4 c.args.counting.now [] c.args.scans.now)
    (g.S.Sink.taken c.args.out.now) (g.S.Sink.taken c.args.out.now) (g.K.Keeper.held c.args.keeper.now) (g.K.Keeper.held c.begin_journal.new.keeper)
    c.in_err-begin_journal.field-0.0 (c.in_err-begin_journal.ensures.done (g.S.Sink.taken c.args.out.now)))

pub returns-in_err-begin_journal-clause-late : goal.returns-in_err-begin_journal-clause-late
returns-in_err-begin_journal-clause-late g c =
    let err = err_from_is_err_and c.from_residual.result c.from_residual.ensures.1 in
    rw (err.1 ∙ ap Err err.2)
    (late-of (begin_acts c.args.counting.now.journal) (g.S.Sink.taken c.args.out.now) (g.S.Sink.taken c.args.out.now) (g.K.Keeper.held c.args.keeper.now) (g.K.Keeper.held c.begin_journal.new.keeper)
    c.in_err-begin_journal.field-0.0 (c.in_err-begin_journal.ensures.done (g.S.Sink.taken c.args.out.now)))

pub returns-clause-done : goal.returns-clause-done
returns-clause-done g c files told =
    let Scans : List (List ℕ) → Type 0 = λ scans.
    IsDone (scans_outcome c.args.setting.now.election.now c.args.setting.now.batch.now files 4 c.args.counting.now [] scans)
    (g.S.Sink.taken c.args.out.now) (g.S.Sink.taken c.count_scans.new.out) (g.K.Keeper.held c.begin_journal.new.keeper) (g.K.Keeper.held c.count_scans.new.keeper) c.count_scans.result in
    c.acts_in_order.ensures.done (begin_acts c.args.counting.now.journal)
    (scans_outcome c.args.setting.now.election.now c.args.setting.now.batch.now files 4 c.args.counting.now [] c.args.scans.now)
    (g.S.Sink.taken c.args.out.now) (g.S.Sink.taken c.args.out.now) (g.K.Keeper.held c.args.keeper.now) (g.K.Keeper.held c.begin_journal.new.keeper)
    (c.in_ok-begin_journal.ensures.done (g.S.Sink.taken c.args.out.now))
    (g.S.Sink.taken c.count_scans.new.out) (g.K.Keeper.held c.count_scans.new.keeper) c.count_scans.result
    (subst Scans c.as_slice.ensures (c.count_scans.ensures.done files told))
