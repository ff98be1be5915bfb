use Rattle.std.proofs.Common.{◌≡◌, take, pos}
use Rattle.vx_plane.specs.Plane.{painted}
use Rattle.vx_geom.specs.Slants.{slant_of}
use Rattle.vx_simulate.specs.Flips.{places_from}
use Rattle.vx_simulate.specs.Flipped.{shown_frame, within}
use Rattle.vx_simulate.proofs.scan_flips.flip_framed_places.Given as goal

-- the places so far are flipped
abbrev pub invariant-loop-place : goal.invariant-loop-place
invariant-loop-place l =
    l.page ≡ painted l.fn.page (within (places_from (pos l.left) (pos l.top) (take l.place-index l.places)) (shown_frame (slant_of l.shear) l.paper))
