use Rattle.vx_election_model.specs.declared.election.Election.{Election}
use Rattle.vx_command.specs.Acts.{writing}
use Rattle.vx_command.specs.Elections.{election_in}
use Rattle.vx_journal.specs.Steps.{once_read}
use Rattle.vx_account.proofs.giving.give_account.Goals as goal

pub returns-clause-done : goal.returns-clause-done
returns-clause-done g c files told records kept =
    c.steps_in_order.ensures.taken 1 (election_in (files c.args.election.now)) c.in_ok-given.given
    (λ (given : Election). once_read given records (λ journal. writing (g.A.Account.says c.args.account.now given journal.center.events)))
    (g.S.Sink.taken c.args.out.now) (c.in_ok-given.ensures.told files told) (g.K.Keeper.held c.args.keeper.now) (g.S.Sink.taken c.account_of-done.new.out)
    (g.K.Keeper.held c.account_of-done.new.keeper) c.account_of-done.result
    (c.account_of-done.ensures.done records kept)
