use Rattle.std.proofs.Common.{◌≡◌, map}
use Rattle.std.specs.List.{range_with_len}
use Rattle.vx_center.specs.declared.exporting.KeyedPlace.{KeyedPlace}
use Rattle.vx_center.specs.Exports.{keyed_at}
use Rattle.vx_center.proofs.center.Center.keyed_places.Given as goal

abbrev pub invariant-loop-place : goal.invariant-loop-place
invariant-loop-place l =
    map (λ (one : KeyedPlace). (one.place, one.key.now)) l.keyed.items ≡ map (keyed_at l.self.events) (range_with_len 0 l.place)
