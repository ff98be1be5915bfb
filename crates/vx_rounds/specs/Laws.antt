-- What follows from the definitions, for callers.
use Rattle.std.specs.Prelude.{◌≡◌, ◌^◌, ◌<◌, ℕ, true, List, [], ◌∷◌, All, None, is_some}
use Rattle.vx_rounds.specs.declared.outcome.Round.{Round}
use Rattle.vx_rounds.specs.Rankings.{IsRanking, AreShort}
use Rattle.vx_rounds.specs.Rounds.{rounds_of}

-- rankings that name each of some candidates at most once are short enough to be counted
abbrev pub RankingsAreShort : Type 0
RankingsAreShort =
    (candidates : ℕ) (rankings : List (List ℕ)) →
    candidates < 2 ^ 32 → All (IsRanking candidates) rankings → AreShort rankings

-- there is a last round, in which no one goes out, and in each before it a candidate does
abbrev pub IsEnded : List Round → Type 0
IsEnded [] = ⊥
IsEnded (round ∷ []) = round.out ≡ None
IsEnded (round ∷ next ∷ more) = (is_some round.out ≡ true) × IsEnded (next ∷ more)

-- every count of some candidates comes to its last round
abbrev pub CountsEnd : Type 0
CountsEnd = (candidates : ℕ) (rankings : List (List ℕ)) → 0 < candidates → IsEnded (rounds_of candidates rankings).rounds
