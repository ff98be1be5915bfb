use Rattle.std.proofs.Common.{◌∙◌}
use Rattle.vx_election_model.specs.declared.election.Election.{Election}
use Rattle.vx_command.specs.Elections.{election_in}
use Rattle.vx_journal.specs.Steps.{once_read}
use Rattle.vx_command_decide.specs.Outcome.{begun_outcome}
use Rattle.vx_command_decide.proofs.deciding.decide.Goals as goal

pub returns-clause-done : goal.returns-clause-done
returns-clause-done g c files told records kept =
    c.steps_in_order.ensures.taken 1 (election_in (files c.args.election.now)) c.in_ok-given.given (λ (given : Election). once_read given records (begun_outcome given (files c.args.script.now))) (g.S.Sink.taken c.args.out.now)
    (c.in_ok-given.ensures.told files told) (g.K.Keeper.held c.args.keeper.now) (g.S.Sink.taken c.decide_for-done.new.out) (g.K.Keeper.held c.decide_for-done.new.keeper) c.decide_for-done.result
    (c.decide_for-done.ensures.done files (c.in_ok-given.ensures.inputs.inputs.same ∙ told) records kept)
