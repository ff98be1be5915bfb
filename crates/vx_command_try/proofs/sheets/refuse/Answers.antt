use Rattle.std.proofs.Common.{Err, ap, ◌∙◌}
use Rattle.std.proofs.lemmas.Result.{err_from_is_err_and}
use Rattle.vx_command_try.proofs.SheetActs.{not-refused, refused}
use Rattle.vx_command_try.proofs.sheets.refuse.Goals as goal

pub returns-in_err-tell_no_sheet-clause-done : goal.returns-in_err-tell_no_sheet-clause-done
returns-in_err-tell_no_sheet-clause-done g c =
    let err = err_from_is_err_and c.from_residual.result c.from_residual.ensures.1 in
    rw (err.1 ∙ ap Err err.2)
    (not-refused c.acts_in_order.ensures c.args.number (g.S.Sink.taken c.args.out.now) (g.S.Sink.taken c.tell_no_sheet.new.out) c.args.came.now c.in_err-tell_no_sheet.field-0.0 c.in_err-tell_no_sheet.ensures.done)

pub returns-clause-done : goal.returns-clause-done
returns-clause-done g c =
    refused c.acts_in_order.ensures c.args.number (g.S.Sink.taken c.args.out.now) (g.S.Sink.taken c.tell_no_sheet.new.out) c.args.came.now c.cause_of.result c.cause_of.ensures c.in_ok-tell_no_sheet.ensures.done
