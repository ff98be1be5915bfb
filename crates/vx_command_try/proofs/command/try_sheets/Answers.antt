use Rattle.std.proofs.Common.{◌∙◌}
use Rattle.vx_election_model.specs.declared.election.Election.{Election}
use Rattle.vx_command.specs.Elections.{election_in, once_planned}
use Rattle.vx_command_try.specs.Outcome.{tried_outcome}
use Rattle.vx_command_try.proofs.command.try_sheets.Goals as goal

pub returns-clause-done : goal.returns-clause-done
returns-clause-done g c files told held =
    c.steps_in_order.ensures.taken 1 (election_in (files c.args.election.now)) c.in_ok-given.given (λ (given : Election). once_planned given (tried_outcome given files c.args.scans.now)) (g.S.Sink.taken c.args.out.now)
    (c.in_ok-given.ensures.told files told) held (g.S.Sink.taken c.try_planned-done.new.out) held c.try_planned-done.result
    (c.try_planned-done.ensures.done files (c.in_ok-given.ensures.inputs.inputs.same ∙ told) held)
