use Rattle.vx_rounds.proofs.Started.{started}
use Rattle.vx_rounds.proofs.piles.Piles.of.Goals as goal

pub returns-clause-piled : goal.returns-clause-piled
returns-clause-piled g c =
    started c.args.candidates c.args.ballots.now c.in_ok-piles.piles c.lay_all.new.self c.in_ok-piles.ensures.piles c.in_ok-piles.ensures.exhausted
    c.in_ok-lay_all.ensures.laid c.lay_all.ensures.few c.lay_all.ensures.piles c.in_ok-piles.ensures.standing
