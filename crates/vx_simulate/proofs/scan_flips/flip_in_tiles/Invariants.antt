use Rattle.std.proofs.Common.{◌≡◌}
use Rattle.vx_plane.specs.Plane.{painted, in_any}
use Rattle.vx_geom.specs.Slants.{slant_of}
use Rattle.vx_simulate.specs.Flips.{tile_places}
use Rattle.vx_simulate.specs.Flipped.{shown_frame, within}
use Rattle.vx_simulate.proofs.scan_flips.flip_in_tiles.Given as goal

-- the places of the tiles so far are flipped
abbrev pub invariant-loop-n : goal.invariant-loop-n
invariant-loop-n l = l.page ≡ painted l.fn.page (within (in_any l.n (tile_places l.drawn)) (shown_frame (slant_of l.shear) l.paper))
