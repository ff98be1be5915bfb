use Rattle.vx_election_model.specs.declared.election.Election.{Election}
use Rattle.vx_command.specs.Elections.{election_in}
use Rattle.vx_journal.specs.Steps.{once_read}
use Rattle.vx_cvr.specs.Pieces.{report_pieces}
use Rattle.vx_command_export.specs.Outcome.{writing_each}
use Rattle.vx_command_export.proofs.exporting.export.Goals as goal

pub returns-clause-done : goal.returns-clause-done
returns-clause-done g c files told records kept =
    c.steps_in_order.ensures.taken 1 (election_in (files c.args.election.now)) c.in_ok-given.given
    (λ (given : Election). once_read given records (λ journal. writing_each (report_pieces given journal.center.events c.args.moment.now c.args.device.now)))
    (g.S.Sink.taken c.args.out.now) (c.in_ok-given.ensures.told files told) (g.K.Keeper.held c.args.keeper.now) (g.S.Sink.taken c.export_for-done.new.out)
    (g.K.Keeper.held c.export_for-done.new.keeper) c.export_for-done.result
    (c.export_for-done.ensures.done records kept)
