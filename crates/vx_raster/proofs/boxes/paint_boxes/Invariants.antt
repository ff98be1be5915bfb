use Rattle.std.proofs.Common.{◌≡◌}
use Rattle.vx_plane.specs.Plane.{painted, in_any}
use Rattle.vx_layout.specs.Print.{printed_box}
use Rattle.vx_raster.proofs.boxes.paint_boxes.Given as goal

-- of the boxes so far those that are printed are painted
abbrev pub invariant-loop-n : goal.invariant-loop-n
invariant-loop-n l = l.page ≡ painted l.fn.page (in_any l.n (printed_box l.paper l.printed))
