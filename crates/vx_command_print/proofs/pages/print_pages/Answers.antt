use Rattle.std.proofs.Common.{Err, refl, ap, ◌∙◌}
use Rattle.std.proofs.lemmas.Result.{err_from_is_err_and}
use Rattle.vx_command_print.proofs.PageActs.{page_written, page_broke_off}
use Rattle.vx_command_print.proofs.pages.print_pages.Goals as goal

pub returns-in_err-print_page-clause-done : goal.returns-in_err-print_page-clause-done
returns-in_err-print_page-clause-done g c held =
    let err = err_from_is_err_and c.from_residual.result c.from_residual.ensures.1 in
    rw (err.1 ∙ ap Err err.2) (page_broke_off c.acts_in_order.ensures c.args.election.now c.args.ballot c.args.plans.now c.loop-plan.plan-index c.plan-item.result _ _ _ c.in_err-print_page.field-0.0 c.loop-plan-test.true c.plan-item.is c.loop-plan.invariant.comes c.in_err-print_page.ensures.done held)

pub loop-plan-preserved : goal.loop-plan-preserved
loop-plan-preserved g c = record {
  comes = page_written c.acts_in_order.ensures c.args.election.now c.args.ballot c.args.plans.now c.loop-plan.plan-index c.plan-item.result _ _ _ c.loop-plan-test.true c.plan-item.is c.loop-plan.invariant.comes c.in_ok-print_page.ensures.done;
  still = c.in_ok-print_page.ensures.sink.sink.still refl ∙ c.loop-plan.invariant.still;
}
