use Rattle.std.proofs.Common.{◌∙◌, Err, ap}
use Rattle.std.proofs.lemmas.Result.{err_from_is_err_and}
use Rattle.vx_journal.specs.Keeping.{begin_acts}
use Rattle.vx_command_decide.specs.Outcome.{script_outcome}
use Rattle.vx_command_decide.proofs.Accepted.{recorded_late}
use Rattle.vx_command_decide.proofs.deciding.decide_begun.Goals as goal

pub returns-clause-done : goal.returns-clause-done
returns-clause-done g c files told =
    c.acts_in_order.ensures.done (begin_acts c.args.journal.now) (script_outcome c.args.election.now c.args.journal.now.center.events (files c.args.script.now)) _ _ _ _
    (c.in_ok-begin_journal.ensures.done (g.S.Sink.taken c.args.out.now)) _ _ c.decide_script.result (c.decide_script.ensures.done files told)

pub returns-in_err-begin_journal-clause-done : goal.returns-in_err-begin_journal-clause-done
returns-in_err-begin_journal-clause-done g c files told =
    let err = err_from_is_err_and c.from_residual.result c.from_residual.ensures.1 in
    rw (err.1 ∙ ap Err err.2)
    (c.acts_in_order.ensures.broken (begin_acts c.args.journal.now) (script_outcome c.args.election.now c.args.journal.now.center.events (files c.args.script.now)) _ _ _ _ c.in_err-begin_journal.field-0.0
    (c.in_err-begin_journal.ensures.done (g.S.Sink.taken c.args.out.now)))

pub returns-in_err-begin_journal-clause-late : goal.returns-in_err-begin_journal-clause-late
returns-in_err-begin_journal-clause-late g c =
    let err = err_from_is_err_and c.from_residual.result c.from_residual.ensures.1 in
    rw (err.1 ∙ ap Err err.2) (recorded_late _ _ _ c.in_err-begin_journal.field-0.0 c.in_err-begin_journal.ensures.done)
