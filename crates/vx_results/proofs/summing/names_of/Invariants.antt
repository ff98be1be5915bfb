use Rattle.std.proofs.Common.{◌≡◌, [], replicate}
use Rattle.vx_results.proofs.summing.names_of.Given as goal

abbrev pub invariant-loop-place : goal.invariant-loop-place
invariant-loop-place l = l.names.items ≡ replicate l.place []
