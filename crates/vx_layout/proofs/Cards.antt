-- The contests of a card are there, each once and in order.
use Rattle.std.proofs.Common.{ℕ, suc, ◌+◌, ◌≤◌, ◌<◌, List, [], ◌∷◌, length, get_or, Bool, true, false, cond, arith}
use Rattle.std.specs.Prelude.{All}
use Rattle.std.proofs.lemmas.List.Elements.{All-nil, All-cons, All-weaker}
use Rattle.vx_election_model.specs.declared.contest.Contest.{Contest}
use Rattle.vx_election_model.specs.declared.style.Style.{Style}
use Rattle.vx_election_model.specs.declared.election.Election.{Election}
use Rattle.vx_styles.specs.Cards.{has_contest, no_style, card_at, contests_from, contests_of_card}

-- numbers that rise
abbrev pub Rising : List ℕ → Type 0
Rising [] = Unit {0}
Rising (n ∷ ns) = All (λ m. n < m) ns × Rising ns

-- a number from a place on, among so many
abbrev IsFrom : ℕ → ℕ → ℕ → Type 0
IsFrom place count n = (place ≤ n) × (n < place + count)

-- such numbers, which rise
record AreFrom (place count : ℕ) (numbers : List ℕ) : Type 0 where
  each : All (IsFrom place count) numbers
  rising : Rising numbers

from-next : (place count : ℕ) (numbers : List ℕ) → AreFrom (place + 1) count numbers → All (IsFrom place (suc count)) numbers
from-next place count numbers are =
    All-weaker (IsFrom (place + 1) count) (IsFrom place (suc count)) (λ n h. (omega (arith, h.0), omega (arith, h.1))) numbers are.each

-- one contest more or not
with_one : (place count : ℕ) (here : Bool) (numbers : List ℕ) → AreFrom (place + 1) count numbers → AreFrom place (suc count) (cond here (place ∷ numbers) numbers)
with_one place count true numbers are = record {
  each = All-cons (IsFrom place (suc count)) place numbers (omega arith, omega arith) (from-next place count numbers are);
  rising = (All-weaker (IsFrom (place + 1) count) (λ n. place < n) (λ n h. omega (arith, h.0)) numbers are.each, are.rising);
}
with_one place count false numbers are = record {
  each = from-next place count numbers are;
  rising = are.rising;
}

from-place : (style : Style) (place : ℕ) (contests : List Contest) → AreFrom place (length contests) (contests_from style place contests)
from-place style place [] = record { each = All-nil (IsFrom place 0); rising = tt }
from-place style place (contest ∷ contests) =
    with_one place (length contests) (has_contest style contest) (contests_from style (place + 1) contests) (from-place style (place + 1) contests)

of-card : (election : Election) (card : ℕ) → AreFrom 0 (length election.contests) (contests_of_card election card)
of-card election card = from-place (get_or election.styles (card_at election card).style no_style) 0 election.contests

pub contests-there : (election : Election) (card : ℕ) → All (λ number. number < length election.contests) (contests_of_card election card)
contests-there election card =
    All-weaker (IsFrom 0 (length election.contests)) (λ n. n < length election.contests) (λ n h. omega (arith, h.1))
    (contests_of_card election card) (of-card election card).each

pub contests-rise : (election : Election) (card : ℕ) → Rising (contests_of_card election card)
contests-rise election card = (of-card election card).rising
