use Rattle.std.proofs.Common.{◌≡◌, ◌++◌, take}
use Rattle.vx_results.specs.Groups.{unit_groups}
use Rattle.vx_results.proofs.groups.push_unit.Given as goal

abbrev pub invariant-loop-kind : goal.invariant-loop-kind
invariant-loop-kind l = l.groups.items ≡ l.initial.groups.items ++ unit_groups (take l.kind-index l.kinds) l.unit
