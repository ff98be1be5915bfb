use Rattle.std.proofs.Common.{◌∙◌, List, ℕ, subst}
use Rattle.vx_command.specs.Acts.{input_of, input_limit}
use Rattle.vx_command.specs.Done.{IsWritten}
use Rattle.vx_command_check.specs.Outcome.{bytes_outcome}
use Rattle.vx_command_check.proofs.checking.check_scans.Goals as goal

pub returns-clause-done : goal.returns-clause-done
returns-clause-done g c files told held =
    let rest = λ (bytes : List ℕ). bytes_outcome c.args.election.now bytes (files c.args.readings.now) in
    c.steps_in_order.ensures.taken 2 (input_of 2 input_limit (files c.args.scans.now)) c.in_ok-bytes.bytes rest (g.S.Sink.taken c.args.out.now)
    (c.in_ok-bytes.ensures.told files told) held (g.S.Sink.taken c.check_bytes.new.out) held c.check_bytes.result
    (subst (λ (bytes : List ℕ). IsWritten (rest bytes) (g.S.Sink.taken c.args.out.now) (g.S.Sink.taken c.check_bytes.new.out) c.check_bytes.result) c.as_slice.ensures
    (c.check_bytes.ensures.done files (c.in_ok-bytes.ensures.inputs.inputs.same ∙ told)) held)
