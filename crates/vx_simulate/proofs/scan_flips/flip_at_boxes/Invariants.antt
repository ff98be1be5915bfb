use Rattle.std.proofs.Common.{◌≡◌}
use Rattle.vx_plane.specs.Plane.{painted, in_any}
use Rattle.vx_geom.specs.Slants.{slant_of}
use Rattle.vx_geom.specs.Seen.{seen}
use Rattle.vx_simulate.specs.Flips.{box_places}
use Rattle.vx_simulate.proofs.scan_flips.flip_at_boxes.Given as goal

-- the places of the boxes so far are flipped
abbrev pub invariant-loop-n : goal.invariant-loop-n
invariant-loop-n l = l.page ≡ painted l.fn.page (seen (slant_of l.shear) (in_any l.n (box_places l.paper l.drawn)))
