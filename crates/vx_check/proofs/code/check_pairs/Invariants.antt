use Rattle.std.proofs.Common.{◌≡◌, ◌<◌, ℕ}
use Rattle.std.specs.Prelude.{Ok}
use Rattle.vx_check.specs.Tests.{pair_tested}
use Rattle.vx_check.proofs.code.check_pairs.Given as goal

-- the pairs so far pass
abbrev pub invariant-loop-n : goal.invariant-loop-n
invariant-loop-n l = (j : ℕ) → j < l.n → pair_tested l.counts l.boxes j ≡ Ok tt
