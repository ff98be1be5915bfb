use Rattle.std.proofs.Common.{◌≡◌, map}
use Rattle.std.specs.List.{range_with_len}
use Rattle.vx_center.specs.Decisions.{decisions_on, name_of}
use Rattle.vx_center.proofs.exporting.names.Given as goal

abbrev pub invariant-loop-slot : goal.invariant-loop-slot
invariant-loop-slot l = l.names.items ≡ map (λ slot. name_of slot (decisions_on l.number l.decided)) (range_with_len 0 l.slot)
