use Rattle.std.proofs.Common.{ℕ, List, Err, ap, subst, ◌∙◌}
use Rattle.std.proofs.lemmas.Result.{err_from_is_err_and}
use Rattle.vx_pbm.specs.Images.{images_of}
use Rattle.vx_walk.specs.Steps.{WalksScan}
use Rattle.vx_walk.proofs.InputActs.{input-missing, input-taken}
use Rattle.vx_walk.proofs.scans.walk_input.Goals as goal

pub returns-in_err-bytes-clause-done : goal.returns-in_err-bytes-clause-done
returns-in_err-bytes-clause-done g c files told =
    let err = err_from_is_err_and c.from_residual.result c.from_residual.ensures.1 in
    rw (err.1 ∙ ap Err err.2)
    (input-missing c.steps_in_order.ensures (g.W.SheetWork.step c.args.work.now) (g.W.SheetWork.ending c.args.work.now) files c.args.word c.args.walked c.args.name.now (g.S.Sink.taken c.args.out.now) (g.S.Sink.taken c.args.out.now)
    c.in_err-bytes.field-0.0 (c.in_err-bytes.ensures.told files told))

pub returns-clause-done : goal.returns-clause-done
returns-clause-done g c files told =
    let Done : List ℕ → Type 0 = λ bytes. WalksScan (g.W.SheetWork.step c.args.work.now c.args.name.now) c.args.word c.args.walked (images_of bytes) (g.S.Sink.taken c.args.out.now) (g.S.Sink.taken c.walk_scan-now.new.out) c.walk_scan-now.result in
    input-taken c.steps_in_order.ensures (g.W.SheetWork.step c.args.work.now) (g.W.SheetWork.ending c.args.work.now) files c.args.word c.args.walked c.args.name.now (g.S.Sink.taken c.args.out.now) (g.S.Sink.taken c.walk_scan-now.new.out) c.in_ok-bytes.bytes
    (c.in_ok-bytes.ensures.told files told) c.walk_scan-now.result (subst Done c.as_slice.ensures c.walk_scan-now.ensures.done)
