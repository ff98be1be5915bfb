use Rattle.std.proofs.Common.{ℕ, ◌+◌, false, List, drop, Err, Ok, refl, ap, subst, ◌∙◌}
use Rattle.std.proofs.lemmas.Result.{err_from_is_err_and}
use Rattle.vx_command.specs.declared.halt.Halt.TheVariants.{NoMemory}
use Rattle.vx_command.specs.Acts.{work, writing}
use Rattle.vx_command.specs.Done.{IsWritten}
use Rattle.vx_command_center.specs.Outcome.{history_acts}
use Rattle.vx_command_center.proofs.Ended.{line_more, line_breaks, all_lines}
use Rattle.vx_command_center.proofs.ending.write_history.Goals as goal

pub returns-in_err-line-clause-done : goal.returns-in_err-line-clause-done
returns-in_err-line-clause-done g c held =
    let err = err_from_is_err_and c.from_residual.result c.from_residual.ensures.1 in
    rw (err.1 ∙ ap Err err.2)
    (c.loop-call.invariant.comes held (g.S.Sink.taken c.loop-call.out) held (Err NoMemory)
    (c.acts_in_order.ensures.no_memory (work (history_acts c.loop-call.place (drop c.loop-call.call-index c.args.history.now))) (g.S.Sink.taken c.loop-call.out) held))

pub returns-in_err-write_text-clause-done : goal.returns-in_err-write_text-clause-done
returns-in_err-write_text-clause-done g c =
    let err = err_from_is_err_and c.from_residual-in_err-write_text.result c.from_residual-in_err-write_text.ensures.1 in
    let Written : List ℕ → Type 0 = λ line. IsWritten (writing line) (g.S.Sink.taken c.loop-call.out) (g.S.Sink.taken c.write_text.new.out) (Err c.in_err-write_text.field-0.0) in
    rw (err.1 ∙ ap Err err.2)
    (line_breaks c.acts_in_order.ensures c.args.history.now c.loop-call.call-index c.loop-call.place c.loop-call.invariant.place c.call-item.result _ _ _ c.in_err-write_text.field-0.0 c.loop-call-test.true c.call-item.is c.loop-call.invariant.comes
    (subst Written (c.as_slice.ensures ∙ c.in_ok-line.ensures) c.in_err-write_text.ensures.done))

pub loop-call-preserved : goal.loop-call-preserved
loop-call-preserved g c =
    let Written : List ℕ → Type 0 = λ line. IsWritten (writing line) (g.S.Sink.taken c.loop-call.out) (g.S.Sink.taken c.write_text.new.out) (Ok tt) in
    record {
      comes =
          line_more c.acts_in_order.ensures c.args.history.now c.loop-call.call-index c.loop-call.place c.loop-call.invariant.place c.call-item.result _ _ _ c.loop-call-test.true c.call-item.is c.loop-call.invariant.comes
          (subst Written (c.as_slice.ensures ∙ c.in_ok-line.ensures) c.in_ok-write_text.ensures.done);
      place = ap (λ (n : ℕ). n + 1) c.loop-call.invariant.place;
      still = c.in_ok-write_text.ensures.sink.sink.still (refl {a = false}) ∙ c.loop-call.invariant.still;
    }

pub returns-clause-done : goal.returns-clause-done
returns-clause-done g c = all_lines c.acts_in_order.ensures c.args.history.now c.loop-call.call-index c.loop-call.place _ _ c.loop-call-test.false c.loop-call.invariant.comes
