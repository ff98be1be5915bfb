use Rattle.std.proofs.Common.{◌≡◌, ap, ◌∙◌, arith}
use Rattle.vx_plane.specs.Plane.{painted, in_any}
use Rattle.vx_grid.specs.Marks.{marks, mark_pixels, timing_marks}
use Rattle.vx_raster.proofs.Painted.{painted-begun, painted-next_of_family}
use Rattle.vx_raster.proofs.marks.paint_marks.Goals as goal

pub loop-k-init : goal.loop-k-init
loop-k-init c = painted-begun c.args.page.now c.width-columns.ensures.whole

pub loop-k-preserved : goal.loop-k-preserved
loop-k-preserved c = painted-next_of_family c.args.page.now c.loop-k.page _ c.loop-k.k (mark_pixels c.args.paper) c.loop-k.invariant c.paint_mark.ensures

pub returns : goal.returns
unfolding timing_marks
returns c =
    let all : c.loop-k.k ≡ marks c.args.paper = omega (arith, c.marks-k-end.ensures.exact) in
    c.loop-k.invariant ∙ ap (λ k. painted c.args.page.now (in_any k (mark_pixels c.args.paper))) all
