use Rattle.vx_election_model.specs.declared.election.Election.{Election}
use Rattle.vx_command.specs.Elections.{election_in, once_planned}
use Rattle.vx_journal.specs.Steps.{once_read}
use Rattle.vx_command_desk.specs.Outcome.{page_outcome}
use Rattle.vx_command_desk.proofs.command.desk.Goals as goal
use Rattle.std.proofs.Common.{◌∙◌}

pub returns-clause-done : goal.returns-clause-done
returns-clause-done g c files told records kept =
    c.steps_in_order.ensures.taken 1 (election_in (files c.args.election.now)) c.in_ok-given.given
    (λ (given : Election). once_planned given (once_read given records (λ journal. page_outcome given c.args.batch.now c.args.scans.now files journal.center.events)))
    (g.S.Sink.taken c.args.out.now) (c.in_ok-given.ensures.told files told) (g.K.Keeper.held c.args.keeper.now)
    (g.S.Sink.taken c.desk_planned-done.new.out) (g.K.Keeper.held c.desk_planned-done.new.keeper) c.desk_planned-done.result
    (c.desk_planned-done.ensures.done files (c.in_ok-given.ensures.inputs.inputs.same ∙ told) records kept)
