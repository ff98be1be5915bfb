use Rattle.std.proofs.Common.{◌≡◌, take}
use Rattle.vx_audit.specs.Sample.{where_held}
use Rattle.vx_audit.specs.Walk.{by_place}
use Rattle.vx_audit.proofs.sample.places_of.Given as goal

abbrev pub invariant-loop-place : goal.invariant-loop-place
invariant-loop-place l = l.places ≡ by_place where_held 0 (take l.place l.drawn)
