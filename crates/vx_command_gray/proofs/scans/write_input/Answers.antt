use Rattle.std.proofs.Common.{List, ℕ, Err, ap, subst, ◌∙◌}
use Rattle.std.proofs.lemmas.Result.{err_from_is_err_and}
use Rattle.vx_gray.specs.Images.{images_of}
use Rattle.vx_command_gray.specs.Done.{WritesScan}
use Rattle.vx_command_gray.proofs.Acts.{scan_missing, scan_taken}
use Rattle.vx_command_gray.proofs.scans.write_input.Goals as goal

pub returns-in_err-bytes-clause-done : goal.returns-in_err-bytes-clause-done
returns-in_err-bytes-clause-done g c files told =
    let err = err_from_is_err_and c.from_residual.result c.from_residual.ensures.1 in
    rw (err.1 ∙ ap Err err.2) (scan_missing c.steps_in_order.ensures files c.args.word c.args.name.now (g.S.Sink.taken c.args.out.now)
    (g.S.Sink.taken c.args.out.now) c.in_err-bytes.field-0.0 (c.in_err-bytes.ensures.told files told))

pub returns-clause-done : goal.returns-clause-done
returns-clause-done g c files told =
    let Written : List ℕ → Type 0 = λ bytes. WritesScan c.args.word (images_of bytes) (g.S.Sink.taken c.args.out.now)
    (g.S.Sink.taken c.write_scan-written.new.out) c.write_scan-written.result in
    scan_taken c.steps_in_order.ensures files c.args.word c.args.name.now (g.S.Sink.taken c.args.out.now)
    (g.S.Sink.taken c.write_scan-written.new.out) c.in_ok-bytes.bytes
    (c.in_ok-bytes.ensures.told files told) c.write_scan-written.result (subst Written c.as_slice.ensures c.write_scan-written.ensures.written)
