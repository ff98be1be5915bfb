use Rattle.std.proofs.Common.{take}
use Rattle.std.specs.List.{flat_map}
use Rattle.vx_results.specs.Named.{named_in}
use Rattle.vx_results.specs.Sums.{AddsEach}
use Rattle.vx_results.proofs.named.add_names.Given as goal

abbrev pub invariant-loop-counted : goal.invariant-loop-counted
invariant-loop-counted l =
    AddsEach (λ contest. flat_map (named_in l.election contest) (take l.counted-index l.counted-items)) l.initial.names.items l.names.items
