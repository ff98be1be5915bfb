use Rattle.std.proofs.Common.{◌≡◌, take}
use Rattle.vx_plane.specs.Plane.{painted, any_of}
use Rattle.vx_raster.specs.Shape.{patch_pixels}
use Rattle.vx_raster.proofs.stamp.stamp.Given as goal

-- the patches so far are painted
abbrev pub invariant-loop-patch : goal.invariant-loop-patch
invariant-loop-patch l = l.page ≡ painted l.fn.page (any_of (take l.patch-index l.shape) (patch_pixels l.x l.y))
