use Rattle.vx_election_model.specs.declared.election.Election.{Election}
use Rattle.vx_command.specs.Elections.{election_in}
use Rattle.vx_command_print.specs.Outcome.{card_outcome}
use Rattle.vx_command_print.proofs.printing.print.Goals as goal

pub returns-clause-done : goal.returns-clause-done
returns-clause-done g c files told held =
    c.steps_in_order.ensures.taken 1 (election_in (files c.args.election.now)) c.in_ok-given.given (λ (given : Election). card_outcome given c.args.ballot) (g.S.Sink.taken c.args.out.now)
    (c.in_ok-given.ensures.told files told) held (g.S.Sink.taken c.print_card-done.new.out) held c.print_card-done.result (c.print_card-done.ensures.done held)
