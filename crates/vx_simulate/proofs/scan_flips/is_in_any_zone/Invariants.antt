use Rattle.std.proofs.Common.{◌≡◌, false}
use Rattle.vx_plane.specs.Plane.{in_any}
use Rattle.vx_code.specs.Code.{place_of_box}
use Rattle.vx_layout.specs.Zones.{box_zone_at}
use Rattle.vx_simulate.proofs.scan_flips.is_in_any_zone.Given as goal

-- the place is in none of the zones so far
abbrev pub invariant-loop-n : goal.invariant-loop-n
invariant-loop-n l = in_any l.n (λ k. box_zone_at l.paper (place_of_box l.paper k)) l.place.u l.place.v ≡ false
