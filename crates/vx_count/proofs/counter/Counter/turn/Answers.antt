use Rattle.std.proofs.Common.{ap, ◌∙◌}
use Rattle.vx_count.specs.Turned.{turned_page}
use Rattle.vx_count.proofs.Turning.{turned-shown}
use Rattle.vx_count.proofs.counter.Counter.turn.Goals as goal

pub returns : goal.returns
returns c =
    turned-shown c.self.inside.turned c.self.inside.sums c.self.invariant.whole ∙ ap turned_page c.self.view_is
