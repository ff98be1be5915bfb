use Rattle.std.proofs.Common.{Result, sym, subst}
use Rattle.vx_rules.specs.declared.marks.SheetMarks.{SheetMarks}
use Rattle.vx_sheet.specs.declared.came.Came.{Came}
use Rattle.vx_walk.specs.Steps.{WalksSheet}
use Rattle.vx_command_try.specs.Outcome.{sheet_outcome}
use Rattle.vx_command_try.proofs.SheetActs.{none-told, sheet-told}
use Rattle.vx_command_try.proofs.sheets.tell.Goals as goal

pub returns-in-Ok-clause-done : goal.returns-in-Ok-clause-done
returns-in-Ok-clause-done g c =
    let Tries : Result SheetMarks Came → Type 0 = λ read. WalksSheet (sheet_outcome c.args.number read) (g.S.Sink.taken c.args.out.now) (g.S.Sink.taken c.tell_sheet.new.out) c.tell_sheet.result in
    subst Tries (sym c.in-Ok.is)
    (sheet-told c.acts_in_order.ensures c.args.number (g.S.Sink.taken c.args.out.now) (g.S.Sink.taken c.tell_sheet.new.out) c.in-Ok.sheet c.tell_sheet.result c.tell_sheet.ensures.done)

pub returns-in-Err-clause-done : goal.returns-in-Err-clause-done
returns-in-Err-clause-done g c =
    let Tries : Result SheetMarks Came → Type 0 = λ read. WalksSheet (sheet_outcome c.args.number read) (g.S.Sink.taken c.args.out.now) (g.S.Sink.taken c.refuse.new.out) c.refuse.result in
    subst Tries (sym c.in-Err.is)
    (none-told c.acts_in_order.ensures c.args.number (g.S.Sink.taken c.args.out.now) (g.S.Sink.taken c.refuse.new.out) c.in-Err.came c.refuse.result c.refuse.ensures.done)
