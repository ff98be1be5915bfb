-- What follows from the definitions, for callers and readers.
use Rattle.std.specs.Prelude.{◌≡◌, ◌+◌, ◌*◌, ◌<◌, ◌≤◌, ℕ, true, false, List, ◌∷◌, All, MatchOption}
use Rattle.std.specs.List.{AllZip}
use Rattle.vx_risk.specs.declared.draws.Draws.{Draws}
use Rattle.vx_risk.specs.Bound.{numerator_of, denominator_of, is_at_most, millionths_of}
use Rattle.vx_risk.specs.Counts.{AreOf}
use Rattle.vx_risk.specs.Enough.{are_enough, enough_of}

-- a fraction of at most one is at most these millionths, and more than one less; any other is told as one
pub record IsRoundedUp (numerator denominator millionths : ℕ) : Type 0 where
  pub at_most_one : millionths ≤ 1000000
  pub at_least : numerator ≤ denominator → numerator * 1000000 ≤ millionths * denominator
  pub close : millionths * denominator < numerator * 1000000 + denominator
  pub capped : denominator < numerator → millionths ≡ 1000000

-- the millionths are P, rounded up
abbrev pub MillionthsAreRoundedUp : Type 0
MillionthsAreRoundedUp =
    (records margin : ℕ) (overstatements : List ℕ) → 0 < records → All (λ o. o ≤ 2) overstatements →
    IsRoundedUp (numerator_of records margin overstatements) (denominator_of records overstatements)
    (millionths_of records margin overstatements)

-- P depends on the counts alone, and not on the order of the draws
abbrev pub OrderIsNothing : Type 0
OrderIsNothing =
    (records margin : ℕ) (draws : Draws) (overstatements others : List ℕ) →
    AreOf draws overstatements → AreOf draws others →
    (numerator_of records margin overstatements ≡ numerator_of records margin others)
    × (denominator_of records overstatements ≡ denominator_of records others)

-- where draws overstate by more, P isn't less: what is met then is met where they overstate by less
abbrev pub MoreNeverHelps : Type 0
MoreNeverHelps =
    (records margin limit : ℕ) (less more : List ℕ) → AllZip (λ one other. one ≤ other) less more →
    is_at_most records margin more limit ≡ true → is_at_most records margin less limit ≡ true

-- a draw without an overstatement never makes P greater
abbrev pub DrawsNeverHurt : Type 0
DrawsNeverHurt =
    (records margin limit : ℕ) (overstatements : List ℕ) →
    is_at_most records margin overstatements limit ≡ true →
    is_at_most records margin (0 ∷ overstatements) limit ≡ true

-- so many draws without an overstatement and more are enough, and fewer aren't
pub record IsEnough (records margin limit draws : ℕ) : Type 0 where
  pub some : 1 ≤ draws
  pub within : draws ≤ 10000
  pub met : (k : ℕ) → draws ≤ k → are_enough records margin limit k ≡ true
  pub fewer : (k : ℕ) → 1 ≤ k → k < draws → are_enough records margin limit k ≡ false

-- what is said to be enough is, and where nothing is said, 10,000 draws are too few
abbrev pub EnoughIsLeast : Type 0
EnoughIsLeast =
    (records margin limit : ℕ) →
    MatchOption (enough_of records margin limit)
    ((k : ℕ) → 1 ≤ k → k ≤ 10000 → are_enough records margin limit k ≡ false)
    (IsEnough records margin limit)
