use Rattle.std.proofs.Common.{Err, ap, subst, ◌∙◌}
use Rattle.std.proofs.lemmas.Result.{err_from_is_err_and}
use Rattle.vx_command.specs.Acts.{writing}
use Rattle.vx_command.specs.Done.{IsWritten}
use Rattle.vx_command_count.specs.declared.tally.Tally.{Tally}
use Rattle.vx_command_count.specs.Outcome.{counted_text, last_acts, last_tally}
use Rattle.vx_command_count.proofs.ending.end_count.Goals as goal

pub returns-in_err-all-clause-done : goal.returns-in_err-all-clause-done
returns-in_err-all-clause-done g c held =
    let err = err_from_is_err_and c.from_residual.result c.from_residual.ensures.1 in
    rw (err.1 ∙ ap Err err.2)
    (c.acts_in_order.ensures.broken (last_acts c.args.setting.now.election.now c.args.setting.now.batch.now c.args.tally c.args.waiting.now) (writing (counted_text (last_tally c.args.tally c.args.waiting.now)))
    (g.S.Sink.taken c.args.out.now) (g.S.Sink.taken c.tell_last.new.out) held held c.in_err-all.field-0.0 (c.in_err-all.ensures.done held))

pub returns-clause-done : goal.returns-clause-done
returns-clause-done g c held =
    let Written : Tally → Type 0 = λ all. IsWritten (writing (counted_text all)) (g.S.Sink.taken c.tell_last.new.out) (g.S.Sink.taken c.tell_counted.new.out) c.tell_counted.result in
    c.acts_in_order.ensures.done (last_acts c.args.setting.now.election.now c.args.setting.now.batch.now c.args.tally c.args.waiting.now) (writing (counted_text (last_tally c.args.tally c.args.waiting.now)))
    (g.S.Sink.taken c.args.out.now) (g.S.Sink.taken c.tell_last.new.out) held held (c.in_ok-all.ensures.done held)
    (g.S.Sink.taken c.tell_counted.new.out) held c.tell_counted.result (subst Written c.in_ok-all.ensures.tally c.tell_counted.ensures.done held)
