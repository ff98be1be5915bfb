use Rattle.std.proofs.Common.{◌∙◌}
use Rattle.vx_election_model.specs.declared.election.Election.{Election}
use Rattle.vx_command.specs.Elections.{election_in}
use Rattle.vx_journal.specs.Steps.{once_read}
use Rattle.vx_sampling.specs.Asked.{text_asked}
use Rattle.vx_sampling.specs.Drawn.{journal_outcome}
use Rattle.vx_sampling.proofs.walking.answer.Goals as goal

pub returns-clause-done : goal.returns-clause-done
returns-clause-done g c files told records kept =
    c.steps_in_order.ensures.taken 1 (election_in (files c.args.election.now)) c.in_ok-given.given
    (λ (given : Election). once_read given records (journal_outcome (text_asked c.args.asked) given (files c.args.hand.now))) (g.S.Sink.taken c.args.out.now)
    (c.in_ok-given.ensures.told files told) (g.K.Keeper.held c.args.keeper.now) (g.S.Sink.taken c.answer_journal-done.new.out) (g.K.Keeper.held c.answer_journal-done.new.keeper)
    c.answer_journal-done.result
    (c.answer_journal-done.ensures.done files (c.in_ok-given.ensures.inputs.inputs.same ∙ told) records kept)
