use Rattle.std.proofs.Common.{arith}
use Rattle.vx_layout.specs.Print.{bubble_pixels}
use Rattle.vx_raster.proofs.Painted.{painted-begun, painted-next_of_list}
use Rattle.vx_raster.proofs.outline.paint_bubbles.Goals as goal

pub loop-bubble-init : goal.loop-bubble-init
loop-bubble-init c = painted-begun c.args.page.now c.width-columns.ensures.whole

pub loop-bubble-preserved : goal.loop-bubble-preserved
loop-bubble-preserved c =
    painted-next_of_list c.args.page.now c.loop-bubble.page _ c.args.bubbles.now c.loop-bubble.bubble-index _ (bubble_pixels c.args.paper)
    (omega arith) c.loop-bubble.invariant c.paint_bubble.ensures
