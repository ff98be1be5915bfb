use Rattle.std.proofs.Common.{Err, refl, ap, ◌∙◌}
use Rattle.std.proofs.lemmas.Result.{err_from_is_err_and}
use Rattle.vx_command_export.proofs.PieceActs.{sheet_written, sheet_broke_off}
use Rattle.vx_command_export.proofs.pieces.write_sheets.Goals as goal

pub returns-in_err-write_sheet-clause-done : goal.returns-in_err-write_sheet-clause-done
returns-in_err-write_sheet-clause-done g c held =
    let err = err_from_is_err_and c.from_residual.result c.from_residual.ensures.1 in
    rw (err.1 ∙ ap Err err.2) (sheet_broke_off c.acts_in_order.ensures c.args.election.now c.args.center.now.events c.args.places.now c.loop-place.place-index
    c.loop-place.is_later _ _ _ _ _ c.in_err-write_sheet.field-0.0 c.loop-place-test.true refl c.loop-place.invariant.comes
    c.in_err-write_sheet.ensures.done held)

pub loop-place-preserved : goal.loop-place-preserved
loop-place-preserved g c = record {
  comes = sheet_written c.acts_in_order.ensures c.args.election.now c.args.center.now.events c.args.places.now c.loop-place.place-index
      c.loop-place.is_later _ _ _ _ _ c.loop-place-test.true refl c.loop-place.invariant.comes c.in_ok-write_sheet.ensures.done;
  still = c.in_ok-write_sheet.ensures.sink.sink.still refl ∙ c.loop-place.invariant.still;
}
