use Rattle.std.proofs.Common.{Err, refl, ap, ◌∙◌}
use Rattle.std.proofs.lemmas.Result.{err_from_is_err_and}
use Rattle.vx_command_center.proofs.Ended.{append_more, append_breaks, all_appended}
use Rattle.vx_command_center.proofs.ending.append_history.Goals as goal

pub returns-in_err-append_call-clause-done : goal.returns-in_err-append_call-clause-done
returns-in_err-append_call-clause-done g c =
    let err = err_from_is_err_and c.from_residual.result c.from_residual.ensures.1 in
    rw (err.1 ∙ ap Err err.2)
    (append_breaks c.acts_in_order.ensures c.args.history.now c.loop-call.call-index c.call-item.result _ _ _ c.in_err-append_call.field-0.0 c.loop-call-test.true c.call-item.is c.loop-call.invariant.comes c.in_err-append_call.ensures.done)

pub loop-call-preserved : goal.loop-call-preserved
loop-call-preserved g c = record {
  comes = append_more c.acts_in_order.ensures c.args.history.now c.loop-call.call-index c.call-item.result _ _ _ c.loop-call-test.true c.call-item.is c.loop-call.invariant.comes c.in_ok-append_call.ensures.done;
  still = c.in_ok-append_call.ensures.keeper.keeper.still refl ∙ c.loop-call.invariant.still;
}

pub returns-clause-done : goal.returns-clause-done
returns-clause-done g c = all_appended c.acts_in_order.ensures c.args.history.now c.loop-call.call-index _ _ c.loop-call-test.false c.loop-call.invariant.comes
