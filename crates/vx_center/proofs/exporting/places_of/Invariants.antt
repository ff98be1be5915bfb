use Rattle.std.proofs.Common.{◌≡◌, map, take}
use Rattle.vx_center.specs.declared.exporting.KeyedPlace.{KeyedPlace}
use Rattle.vx_center.proofs.exporting.places_of.Given as goal

abbrev pub invariant-loop-one : goal.invariant-loop-one
invariant-loop-one l = l.places.items ≡ map (λ (one : KeyedPlace). one.place) (take l.one-index l.keyed)
