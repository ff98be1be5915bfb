use Rattle.std.proofs.Common.{ℕ, List, Err, ap, subst, ◌∙◌}
use Rattle.std.proofs.lemmas.Result.{err_from_is_err_and}
use Rattle.vx_pbm.specs.Images.{images_of}
use Rattle.vx_command_read.specs.Scans.{ReadsScan}
use Rattle.vx_command_read.proofs.ScanActs.{scan_missing, scan_taken}
use Rattle.vx_command_read.proofs.scans.read_input.Goals as goal

pub returns-in_err-bytes-clause-done : goal.returns-in_err-bytes-clause-done
returns-in_err-bytes-clause-done g c files told =
    let err = err_from_is_err_and c.from_residual.result c.from_residual.ensures.1 in
    rw (err.1 ∙ ap Err err.2)
    (scan_missing c.steps_in_order.ensures c.args.election.now files c.args.word c.args.number c.args.name.now (g.S.Sink.taken c.args.out.now) (g.S.Sink.taken c.args.out.now)
    c.in_err-bytes.field-0.0 (c.in_err-bytes.ensures.told files told))

pub returns-clause-done : goal.returns-clause-done
returns-clause-done g c files told =
    let Read : List ℕ → Type 0 = λ bytes. ReadsScan c.args.election.now c.args.word c.args.number (images_of bytes) (g.S.Sink.taken c.args.out.now) (g.S.Sink.taken c.read_scan-next.new.out) c.read_scan-next.result in
    scan_taken c.steps_in_order.ensures c.args.election.now files c.args.word c.args.number c.args.name.now (g.S.Sink.taken c.args.out.now) (g.S.Sink.taken c.read_scan-next.new.out) c.in_ok-bytes.bytes
    (c.in_ok-bytes.ensures.told files told) c.read_scan-next.result (subst Read c.as_slice-scan.ensures c.read_scan-next.ensures.read)
