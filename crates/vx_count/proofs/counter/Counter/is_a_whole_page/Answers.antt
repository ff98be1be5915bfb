use Rattle.vx_count.proofs.Turning.{shown-whole}
use Rattle.vx_count.proofs.counter.Counter.is_a_whole_page.Goals as goal

pub returns : goal.returns
returns c = shown-whole c.self.inside.turned c.self.inside.sums c.args.self.now c.self.invariant.whole c.self.view_is
