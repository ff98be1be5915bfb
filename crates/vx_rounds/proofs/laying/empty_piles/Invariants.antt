use Rattle.std.proofs.Common.{◌≡◌, [], replicate}
use Rattle.vx_rounds.proofs.laying.empty_piles.Given as goal

abbrev pub invariant-loop-candidate : goal.invariant-loop-candidate
invariant-loop-candidate l = l.piles.items ≡ replicate l._candidate []
