use Rattle.std.proofs.Common.{map}
use Rattle.vx_sampling.specs.Said.{overstated}
use Rattle.vx_sampling.proofs.Most.{most_step}
use Rattle.vx_sampling.proofs.said.overstatement.Goals as goal

pub loop-winner-preserved : goal.loop-winner-preserved
loop-winner-preserved c =
    most_step (λ winner. map (overstated winner) c.args.rivals.now) c.args.winners.now c.loop-winner.winner-index _ c.loop-winner-test.true
    c.loop-winner.most c.greatest-most.result c.loop-winner.invariant c.greatest-most.ensures
