use Rattle.std.proofs.Common.{◌<◌, length, arith}
use Rattle.vx_rounds.proofs.Piled.{all-next, most-next}
use Rattle.vx_rounds.proofs.piles.Piles.lay_all.Goals as goal

pub loop-ballot-preserved : goal.loop-ballot-preserved
loop-ballot-preserved g c =
    let within : c.loop-ballot.ballot < length c.args.ballots.now = omega arith in
    let next = most-next c.args.ballots.now c.loop-ballot.ballot within in
    record {
      piles = c.lay.ensures.piles;
      laid = all-next c.args.ballots.now c.args.self.now c.loop-ballot.self c.lay.new.self c.loop-ballot.ballot within
          c.loop-ballot.invariant.laid c.in_ok-lay.ensures.laid;
      spent = omega (arith, next, c.lay.ensures.steps, c.loop-ballot.invariant.spent);
    }
