use Rattle.vx_count.proofs.Turning.{shown-count}
use Rattle.vx_count.proofs.counter.Counter.dark_in_frame.Goals as goal

pub returns-then-self : goal.returns-then-self
returns-then-self c =
    shown-count c.self.inside.turned c.self.inside.sums c.args.self.now c.args.left c.args.top c.args.width c.args.height _ _ c.dark_in_frame.result
    c.if-self.true c.self.view_is c.width.ensures.value c.height.ensures c.requires.columns c.requires.rows c.dark_in_frame.ensures
