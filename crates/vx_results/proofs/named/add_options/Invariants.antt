use Rattle.std.proofs.Common.{take}
use Rattle.std.specs.List.{flat_map}
use Rattle.vx_results.specs.Named.{named_by}
use Rattle.vx_results.specs.Sums.{Adds}
use Rattle.vx_results.proofs.named.add_options.Given as goal

abbrev pub invariant-loop-option : goal.invariant-loop-option
invariant-loop-option l = Adds (flat_map (named_by l.contest l.counted) (take l.option-index l.option-items)) l.initial.names l.names
