use Rattle.std.proofs.Common.{◌≡◌, ◌-◌, ◌/◌, ◌^◌, ◌≤◌}
use Rattle.vx_plane.specs.Plane.{painted, in_any}
use Rattle.vx_raster.specs.Dots.{bit_pixels}
use Rattle.vx_raster.proofs.text.paint_column.Given as goal

-- the dots above are painted, and the rest of the bits is left
abbrev pub invariant-loop-rest : goal.invariant-loop-rest
invariant-loop-rest l = record {
  within : l.top ≤ 7;
  left : l.rest ≡ l.bits / 2 ^ l.top;
  so_far : l.page ≡ painted l.fn.page (in_any l.top (bit_pixels l.bits l.x l.y));
}

abbrev pub decreases-loop-rest : goal.decreases-loop-rest
decreases-loop-rest l = 7 - l.top
