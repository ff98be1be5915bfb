use Rattle.std.proofs.Common.{Err, List, ℕ, Ok, ap, subst, ◌∙◌}
use Rattle.std.proofs.lemmas.Result.{err_from_is_err_and}
use Rattle.vx_command.specs.Acts.{writing}
use Rattle.vx_command.specs.Done.{IsWritten}
use Rattle.vx_command_export.proofs.PieceActs.{all_written, front_broken, sheets_broken}
use Rattle.vx_command_export.proofs.pieces.write_pieces.Goals as goal

pub returns-in_err-write_text-clause-done : goal.returns-in_err-write_text-clause-done
returns-in_err-write_text-clause-done g c held =
    let err = err_from_is_err_and c.from_residual.result c.from_residual.ensures.1 in
    let front = subst (λ (text : List ℕ). IsWritten (writing text) (g.S.Sink.taken c.args.out.now) (g.S.Sink.taken c.write_text.new.out) (Err c.in_err-write_text.field-0.0)) c.front_piece.ensures c.in_err-write_text.ensures.done in
    rw (err.1 ∙ ap Err err.2) (front_broken c.acts_in_order.ensures c.args.election.now c.args.center.now.events c.args.moment.now c.args.device.now
    c.args.places.now c.requires.places _ _ c.in_err-write_text.field-0.0 front held)

pub returns-in_err-write_sheets-clause-done : goal.returns-in_err-write_sheets-clause-done
returns-in_err-write_sheets-clause-done g c held =
    let err = err_from_is_err_and c.from_residual-in_err-write_sheets.result c.from_residual-in_err-write_sheets.ensures.1 in
    let front = subst (λ (text : List ℕ). IsWritten (writing text) (g.S.Sink.taken c.args.out.now) (g.S.Sink.taken c.write_text.new.out) (Ok tt)) c.front_piece.ensures c.in_ok-write_text.ensures.done in
    rw (err.1 ∙ ap Err err.2) (sheets_broken c.acts_in_order.ensures c.args.election.now c.args.center.now.events c.args.moment.now c.args.device.now
    c.args.places.now c.requires.places _ _ _ c.in_err-write_sheets.field-0.0 front c.in_err-write_sheets.ensures.done held)

pub returns-clause-done : goal.returns-clause-done
returns-clause-done g c held =
    let front = subst (λ (text : List ℕ). IsWritten (writing text) (g.S.Sink.taken c.args.out.now) (g.S.Sink.taken c.write_text.new.out) (Ok tt)) c.front_piece.ensures c.in_ok-write_text.ensures.done in
    all_written c.acts_in_order.ensures c.args.election.now c.args.center.now.events c.args.moment.now c.args.device.now
    c.args.places.now c.requires.places _ _ _ _ _ front c.in_ok-write_sheets.ensures.done c.write_rest.ensures.done held
