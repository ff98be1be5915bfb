use Rattle.std.proofs.Common.{◌≡◌, take}
use Rattle.vx_results.specs.Groups.{groups_of}
use Rattle.vx_results.proofs.groups.groups_of.Given as goal

abbrev pub invariant-loop-unit : goal.invariant-loop-unit
invariant-loop-unit l = l.groups.items ≡ groups_of l.kinds (take l.unit-index l.units)
