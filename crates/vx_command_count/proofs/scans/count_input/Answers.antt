use Rattle.std.proofs.Common.{ℕ, List, Err, ap, subst, ◌∙◌}
use Rattle.std.proofs.lemmas.Result.{err_from_is_err_and}
use Rattle.vx_pbm.specs.Images.{images_of}
use Rattle.vx_command_count.specs.Steps.{CountsScan}
use Rattle.vx_command_count.proofs.InputActs.{input_missing, input_taken}
use Rattle.vx_command_count.proofs.scans.count_input.Goals as goal

pub returns-in_err-bytes-clause-done : goal.returns-in_err-bytes-clause-done
returns-in_err-bytes-clause-done g c files told =
    let err = err_from_is_err_and c.from_residual.result c.from_residual.ensures.1 in
    rw (err.1 ∙ ap Err err.2)
    (input_missing c.steps_in_order.ensures c.args.setting.now.election.now c.args.setting.now.batch.now files c.args.word c.args.counting.now c.args.counting.now c.args.waiting.now c.args.name.now
    (g.S.Sink.taken c.args.out.now) (g.S.Sink.taken c.args.out.now) (g.K.Keeper.held c.args.keeper.now) (g.K.Keeper.held c.args.keeper.now)
    c.in_err-bytes.field-0.0 (c.in_err-bytes.ensures.told files told))

pub returns-clause-done : goal.returns-clause-done
returns-clause-done g c files told =
    let Counts : List ℕ → Type 0 = λ bytes. CountsScan c.args.setting.now.election.now c.args.setting.now.batch.now c.args.word c.args.counting.now c.count_scan-left.new.counting c.args.waiting.now (images_of bytes) (g.S.Sink.taken c.args.out.now) (g.S.Sink.taken c.count_scan-left.new.out) (g.K.Keeper.held c.args.keeper.now) (g.K.Keeper.held c.count_scan-left.new.keeper) c.count_scan-left.result in
    input_taken c.steps_in_order.ensures c.args.setting.now.election.now c.args.setting.now.batch.now files c.args.word c.args.counting.now c.count_scan-left.new.counting c.args.waiting.now c.args.name.now
    (g.S.Sink.taken c.args.out.now) (g.S.Sink.taken c.count_scan-left.new.out) (g.K.Keeper.held c.args.keeper.now) (g.K.Keeper.held c.count_scan-left.new.keeper)
    c.in_ok-bytes.bytes (c.in_ok-bytes.ensures.told files told) c.count_scan-left.result (subst Counts c.as_slice-scan.ensures c.count_scan-left.ensures.counts)
