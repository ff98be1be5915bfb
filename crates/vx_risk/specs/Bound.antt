-- The Kaplan-Markov bound P of a ballot-level comparison audit, in exact whole numbers:
--     P = product over the draws of (1 - m / (2 g N)) / (1 - o / (2 g)),   g = 103905/100000
-- with N records, a margin of m votes, and a draw's overstatement of o votes (P. B. Stark,
-- Super-Simple Simultaneous Single-Ballot Risk-Limiting Audits, 2010).
use Rattle.std.specs.Prelude.{◌-◌, ◌*◌, ℕ, Bool, List, [], ◌∷◌, find, nat_le, unwrap_or}
use Rattle.std.specs.List.{range_with_len}

-- the product of a function's values over a list
abbrev pub product_by : {A : Type 0} → (A → ℕ) → List A → ℕ
product_by f [] = 1
product_by f (x ∷ xs) = f x * product_by f xs

-- twice the inflator, 2 g, in ten-thousandths
abbrev pub twice_inflator : ℕ
twice_inflator = 20781

-- what a draw multiplies P's numerator by: (2 g N - m) 2 g, and 0 where the margin is more than 2 g N
abbrev pub numerator_by : ℕ → ℕ → ℕ
numerator_by records margin = (twice_inflator * records - 10000 * margin) * twice_inflator

-- what a draw with this overstatement multiplies P's denominator by: 2 g N (2 g - o)
abbrev pub denominator_by : ℕ → ℕ → ℕ
denominator_by records overstatement = twice_inflator * records * (twice_inflator - 10000 * overstatement)

-- P's numerator, over the overstatements of all draws
abbrev pub numerator_of : ℕ → ℕ → List ℕ → ℕ
numerator_of records margin overstatements = product_by (λ o. numerator_by records margin) overstatements

-- P's denominator
abbrev pub denominator_of : ℕ → List ℕ → ℕ
denominator_of records overstatements = product_by (denominator_by records) overstatements

-- P is at most so many thousandths
abbrev pub is_at_most : ℕ → ℕ → List ℕ → ℕ → Bool
is_at_most records margin overstatements limit =
    nat_le (numerator_of records margin overstatements * 1000) (limit * denominator_of records overstatements)

-- the millionths of one
unfoldable pub all_millionths : ℕ
all_millionths = 1000000

-- so many millionths are at least the fraction
abbrev pub reaches : ℕ → ℕ → ℕ → Bool
reaches numerator denominator millionths = nat_le (numerator * 1000000) (millionths * denominator)

-- a fraction in millionths, rounded up, and at most one: the least number of millionths that are at least it
abbrev pub millionths_in : ℕ → ℕ → ℕ
millionths_in numerator denominator =
    unwrap_or (find (reaches numerator denominator) (range_with_len 0 all_millionths)) all_millionths

-- P in millionths, rounded up, and at most one
abbrev pub millionths_of : ℕ → ℕ → List ℕ → ℕ
millionths_of records margin overstatements =
    millionths_in (numerator_of records margin overstatements) (denominator_of records overstatements)
