use Rattle.std.proofs.Common.{arith}
use Rattle.vx_count.proofs.Turning.{shown-count}
use Rattle.vx_count.proofs.counter.Counter.run.Goals as goal

pub returns-then-self : goal.returns-then-self
returns-then-self c =
    shown-count c.self.inside.turned c.self.inside.sums c.args.self.now c.args.left c.args.row c.args.width 1 _ _ c.run.result
    c.if-self.true c.self.view_is c.width.ensures.value c.height.ensures c.requires.columns (omega arith) c.run.ensures
