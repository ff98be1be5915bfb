use Rattle.vx_election_model.specs.declared.election.Election.{Election}
use Rattle.vx_command.specs.Acts.{writing}
use Rattle.vx_command.specs.Elections.{election_in}
use Rattle.vx_command_cards.specs.Outcome.{cards_text}
use Rattle.vx_command_cards.proofs.telling.cards.Goals as goal

pub returns-clause-done : goal.returns-clause-done
returns-clause-done g c files told held =
    c.steps_in_order.ensures.taken 1 (election_in (files c.args.election.now)) c.in_ok-given.given (λ (given : Election). writing (cards_text given)) (g.S.Sink.taken c.args.out.now)
    (c.in_ok-given.ensures.told files told) held (g.S.Sink.taken c.write_cards-done.new.out) held c.write_cards-done.result (c.write_cards-done.ensures.done held)
