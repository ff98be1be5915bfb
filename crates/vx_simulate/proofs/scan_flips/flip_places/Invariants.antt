use Rattle.std.proofs.Common.{◌≡◌, take}
use Rattle.vx_plane.specs.Plane.{painted}
use Rattle.vx_geom.specs.Slants.{slant_of}
use Rattle.vx_geom.specs.Seen.{seen}
use Rattle.vx_simulate.specs.Flips.{places_from}
use Rattle.vx_simulate.proofs.scan_flips.flip_places.Given as goal

-- the places so far are flipped
abbrev pub invariant-loop-place : goal.invariant-loop-place
invariant-loop-place l = l.page ≡ painted l.fn.page (seen (slant_of l.shear) (places_from l.left l.top (take l.place-index l.places)))
