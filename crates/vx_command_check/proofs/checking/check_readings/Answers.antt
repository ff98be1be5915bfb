use Rattle.std.proofs.Common.{List, ℕ, subst}
use Rattle.vx_pbm.specs.Images.{images_of}
use Rattle.vx_command.specs.Acts.{input_of, input_limit}
use Rattle.vx_command.specs.Done.{IsWritten}
use Rattle.vx_command_check.specs.Outcome.{readings_outcome, readings_for}
use Rattle.vx_command_check.proofs.checking.check_readings.Goals as goal

pub returns-clause-done : goal.returns-clause-done
returns-clause-done g c files told held =
    let rest = λ (text : List ℕ). readings_outcome c.args.election.now 0 (images_of c.args.scans.now).pages (readings_for c.args.election.now text) in
    c.steps_in_order.ensures.taken 3 (input_of 3 input_limit (files c.args.readings.now)) c.in_ok-text.text rest (g.S.Sink.taken c.args.out.now)
    (c.in_ok-text.ensures.told files told) held (g.S.Sink.taken c.check_pages.new.out) held c.check_pages.result
    (subst (λ (text : List ℕ). IsWritten (rest text) (g.S.Sink.taken c.args.out.now) (g.S.Sink.taken c.check_pages.new.out) c.check_pages.result) c.as_slice.ensures
    c.check_pages.ensures.done held)
