use Rattle.std.proofs.Common.{◌≡◌, get_or}
use Rattle.vx_gray.specs.Gray.{greatest}
use Rattle.vx_gray.proofs.near.greatest.Given as goal

abbrev pub invariant-loop-value : goal.invariant-loop-value
invariant-loop-value l = l.top ≡ greatest l.value-index (λ i. get_or l.values i 0)
