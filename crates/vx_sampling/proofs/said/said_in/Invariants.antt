use Rattle.std.proofs.Common.{◌≡◌, map, take}
use Rattle.vx_sampling.specs.Said.{said_of}
use Rattle.vx_sampling.proofs.said.said_in.Given as goal

abbrev pub invariant-loop-selection : goal.invariant-loop-selection
invariant-loop-selection l = l.said.items ≡ map (said_of l.one l.contest l.seats l.marks) (take l.selection-index l.selections)
