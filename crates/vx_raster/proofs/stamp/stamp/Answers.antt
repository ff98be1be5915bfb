use Rattle.std.proofs.Common.{arith}
use Rattle.vx_raster.specs.Shape.{patch_pixels}
use Rattle.vx_raster.proofs.Painted.{painted-begun, painted-next_of_list}
use Rattle.vx_raster.proofs.stamp.stamp.Goals as goal

pub loop-patch-init : goal.loop-patch-init
loop-patch-init c = painted-begun c.args.page.now c.width-columns.ensures.whole

pub loop-patch-preserved : goal.loop-patch-preserved
loop-patch-preserved c =
    painted-next_of_list c.args.page.now c.loop-patch.page _ c.args.shape.now c.loop-patch.patch-index _ (patch_pixels c.args.x c.args.y)
    (omega arith) c.loop-patch.invariant (rw (c.from.ensures, c.from-in-loop-patch.ensures) at c.darken.ensures)
