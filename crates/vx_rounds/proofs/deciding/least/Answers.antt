use Rattle.vx_rounds.proofs.Least.{met-at}
use Rattle.vx_rounds.proofs.deciding.least.Goals as goal

pub returns-clause-met : goal.returns-clause-met
returns-clause-met c =
    met-at c.args.counts.now c.args.most c.loop-count.least c.loop-count.count-index c.loop-count-test.false
    c.loop-count.invariant.none_less c.loop-count.invariant.met c.requires
