use Rattle.std.proofs.Common.{◌≡◌, ◌≤◌, ◌⊎◌, take, ℕ, List}
use Rattle.std.specs.Prelude.{All, Any}
use Rattle.vx_rounds.proofs.deciding.least.Given as goal

-- so far none is less, and one is as little, or none is less than the most
pub record IsLeast (most least : ℕ) (seen : List (ℕ × ℕ)) : Type 0 where
  pub within : least ≤ most
  pub none_less : All (λ count. least ≤ count.1) seen
  pub met : (least ≡ most) ⊎ Any (λ count. count.1 ≡ least) seen

abbrev pub invariant-loop-count : goal.invariant-loop-count
invariant-loop-count l = IsLeast l.most l.least (take l.count-index l.counts)
