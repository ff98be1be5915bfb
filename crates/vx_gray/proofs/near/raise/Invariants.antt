use Rattle.std.proofs.Common.{◌≡◌, ◌<◌, ◌≤◌, ℕ, List, max, get_or}
use Rattle.vx_gray.proofs.near.raise.Given as goal

-- the numbers before one are raised, those from it on are as they were
pub record IsRaisedTo (u : ℕ) (old row new : List ℕ) : Type 0 where
  pub before : (k : ℕ) → k < u → get_or new k 0 ≡ max (get_or old k 0) (get_or row k 0)
  pub behind : (k : ℕ) → u ≤ k → get_or new k 0 ≡ get_or old k 0

abbrev pub invariant-loop-u : goal.invariant-loop-u
invariant-loop-u l = IsRaisedTo l.u l.initial.tops l.row l.tops
