-- Piles of ballots, one for each candidate: what they have to do with the rankings.
use Rattle.std.specs.Prelude.{◌≡◌, ◌+◌, ◌-◌, ◌<◌, ◌^◌, ◌&&◌, ℕ, Bool, true, false, List, [], length, take, find, slice_get, slice_index_or, All, count_by, sum_by, Some, None}
use Rattle.vx_rounds.specs.declared.choosing.Choice.{Choice}
use Rattle.vx_rounds.specs.declared.piles.PiledBallot.{PiledBallot}
use Rattle.vx_rounds.specs.declared.piles.Piles.{Piles}
use Rattle.vx_rounds.specs.Rankings.{ranking_at}
use Rattle.vx_rounds.specs.Rounds.{is_for, is_exhausted}

-- the pile of a candidate
abbrev pub pile_at : Piles → ℕ → List PiledBallot
pile_at piles candidate = slice_index_or piles.piles.items candidate []

-- whether a candidate stands
abbrev pub stands_in : Piles → ℕ → Bool
stands_in piles candidate = slice_index_or piles.standing.items candidate false

-- how many ballots of a pile pass a test of their rankings
abbrev pub count_on : List (List ℕ) → (List ℕ → Bool) → List PiledBallot → ℕ
count_on rankings test pile = count_by (λ piled. test (ranking_at rankings piled.ballot)) pile

-- how many more places the ballots of a pile can be asked for
abbrev pub left_on : List (List ℕ) → List PiledBallot → ℕ
left_on rankings pile = sum_by (λ piled. length (ranking_at rankings piled.ballot) - piled.place) pile

-- the same of all piles
abbrev pub left_in : List (List ℕ) → Piles → ℕ
left_in rankings piles = sum_by (left_on rankings) piles.piles.items

-- a ballot names no standing candidate before this place
pub record IsPassed (rankings : List (List ℕ)) (stands : ℕ → Bool) (ballot place : ℕ) : Type 0 where
  pub there : ballot < length rankings
  pub none : find stands (take place (ranking_at rankings ballot)) ≡ None

-- a ballot lies for this candidate: it names it at its place, and no standing one before
pub record LiesFor (rankings : List (List ℕ)) (stands : ℕ → Bool) (candidate : ℕ) (piled : PiledBallot) : Type 0 where
  pub passed : IsPassed rankings stands piled.ballot piled.place
  pub named : slice_get (ranking_at rankings piled.ballot) piled.place ≡ Some candidate

-- a ballot's choice, with the place that names it
pub record IsChosen (rankings : List (List ℕ)) (stands : ℕ → Bool) (ballot : ℕ) (choice : Choice) : Type 0 where
  pub passed : IsPassed rankings stands ballot choice.place
  pub named : slice_get (ranking_at rankings ballot) choice.place ≡ Some choice.candidate

-- a ballot may be laid again: what it names up to its place stands no more
pub record LiesForNone (rankings : List (List ℕ)) (stands : ℕ → Bool) (piled : PiledBallot) : Type 0 where
  pub passed : IsPassed rankings stands piled.ballot (piled.place + 1)
  pub within : piled.place < length (ranking_at rankings piled.ballot)

-- there is a pile for each candidate
pub record HasPiles (piles : Piles) : Type 0 where
  pub as_many : length piles.piles.items ≡ length piles.standing.items

-- ballots with these rankings came onto the piles of their choices, or were exhausted
pub record Laid (rankings : List (List ℕ)) (stands : ℕ → Bool) (old new : Piles) (more : List (List ℕ)) : Type 0 where
  pub standing : new.standing.items ≡ old.standing.items
  pub counted : (c : ℕ) → stands c ≡ true → (test : List ℕ → Bool) →
      count_on rankings test (pile_at new c) ≡ count_on rankings test (pile_at old c) + count_by (λ ranking. test ranking && is_for stands c ranking) more
  pub placed : (c : ℕ) → stands c ≡ true →
      All (LiesFor rankings stands c) (pile_at old c) → All (LiesFor rankings stands c) (pile_at new c)
  pub exhausted : new.exhausted ≡ old.exhausted + count_by (is_exhausted stands) more

-- each standing candidate's pile has the ballots that count for it, and the exhausted are counted
pub record ArePiled (candidates : ℕ) (rankings : List (List ℕ)) (piles : Piles) : Type 0 where
  pub few : length rankings < 2 ^ 32
  pub has_piles : HasPiles piles
  pub all : length piles.standing.items ≡ candidates
  pub counted : (c : ℕ) → stands_in piles c ≡ true → (test : List ℕ → Bool) →
      count_on rankings test (pile_at piles c) ≡ count_by (λ ranking. test ranking && is_for (stands_in piles) c ranking) rankings
  pub placed : (c : ℕ) → stands_in piles c ≡ true → All (LiesFor rankings (stands_in piles) c) (pile_at piles c)
  pub exhausted : piles.exhausted ≡ count_by (is_exhausted (stands_in piles)) rankings
