use Rattle.std.proofs.Common.{◌≡◌}
use Rattle.vx_plane.specs.Plane.{painted, in_any}
use Rattle.vx_grid.specs.Marks.{mark_pixels}
use Rattle.vx_raster.proofs.marks.paint_marks.Given as goal

-- the marks so far are painted
abbrev pub invariant-loop-k : goal.invariant-loop-k
invariant-loop-k l = l.page ≡ painted l.fn.page (in_any l.k (mark_pixels l.paper))
