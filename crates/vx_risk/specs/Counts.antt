-- The counts of a sample's draws.
use Rattle.std.specs.Prelude.{◌≡◌, ◌≤◌, ◌==◌, ℕ, List, length, All, count_by}
use Rattle.vx_risk.specs.declared.draws.Draws.{Draws}

-- these are the overstatements of the draws: so many of one vote, so many of two, and of the others none
pub record AreOf (draws : Draws) (overstatements : List ℕ) : Type 0 where
  pub all : length overstatements ≡ draws.drawn
  pub ones : count_by (λ o. o == 1) overstatements ≡ draws.one
  pub twos : count_by (λ o. o == 2) overstatements ≡ draws.two
  pub small : All (λ o. o ≤ 2) overstatements
