use Rattle.std.proofs.Common.{◌∙◌}
use Rattle.vx_election_model.specs.declared.election.Election.{Election}
use Rattle.vx_command.specs.Elections.{election_in, once_planned}
use Rattle.vx_journal.specs.Steps.{once_read}
use Rattle.vx_command_count.specs.Outcome.{journal_outcome}
use Rattle.vx_command_count.proofs.command.count.Goals as goal

pub returns-clause-done : goal.returns-clause-done
returns-clause-done g c files told records kept =
    c.steps_in_order.ensures.taken 1 (election_in (files c.args.election.now)) c.in_ok-given.given
    (λ (given : Election). once_planned given (once_read given records (journal_outcome given c.args.batch.now c.args.scans.now files)))
    (g.S.Sink.taken c.args.out.now) (c.in_ok-given.ensures.told files told) (g.K.Keeper.held c.args.keeper.now) (g.S.Sink.taken c.count_planned-done.new.out) (g.K.Keeper.held c.count_planned-done.new.keeper) c.count_planned-done.result
    (c.count_planned-done.ensures.done files (c.in_ok-given.ensures.inputs.inputs.same ∙ told) records kept)
