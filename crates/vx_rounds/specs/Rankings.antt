-- Ranked ballots: each names candidates in order, the first choice first.
use Rattle.std.specs.Prelude.{◌+◌, ◌^◌, ◌<◌, ◌≤◌, ◌==◌, ℕ, List, [], length, All, count_by, sum_by, slice_index_or}

-- the ranking of the ballot with this number
abbrev pub ranking_at : List (List ℕ) → ℕ → List ℕ
ranking_at rankings ballot = slice_index_or rankings ballot []

-- a ranking names candidates below this number, each at most once
pub record IsRanking (candidates : ℕ) (ranking : List ℕ) : Type 0 where
  pub below : All (λ candidate. candidate < candidates) ranking
  pub once : (candidate : ℕ) → count_by (λ named. named == candidate) ranking ≤ 1

-- each ranking has fewer places than there are numbers of 32 bits
abbrev pub AreShort : List (List ℕ) → Type 0
AreShort rankings = All (λ ranking. length ranking < 2 ^ 32) rankings

-- as many places as the rankings have, and one more for each ballot
abbrev pub most_steps : List (List ℕ) → ℕ
most_steps rankings = sum_by (λ ranking. length ranking + 1) rankings
