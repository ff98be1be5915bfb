-- The leads of a contest's winners over all that they are held against, in votes.
use Rattle.std.specs.Prelude.{◌≡◌, ◌<◌, ◌≤◌, ℕ, ◌+◌, if◌then◌else◌, List, [], ◌∷◌, ◌++◌, map, Contains}
use Rattle.vx_election_model.specs.declared.contest.Contest.{Contest}
use Rattle.vx_tally.specs.declared.report.CvrRecord.{CvrRecord}
use Rattle.vx_tally.specs.Totals.{total_of}
use Rattle.vx_sampling.specs.declared.sides.Sides.{Sides}
use Rattle.vx_sampling.specs.Said.{slots_count}
use Rattle.vx_sampling.specs.Sides.{choice_votes, sides_of, slot_votes}

-- A number is the least lead of a winner over a rival, by the votes of both: none is less, that of some pair is as much, and it
-- isn't 0.
pub record IsLeastLead (winners rivals : List ℕ) (margin : ℕ) : Type 0 where
  pub least : (winner rival : ℕ) → Contains winners winner → Contains rivals rival → margin + rival ≤ winner
  pub winner : ℕ
  pub rival : ℕ
  pub wins : Contains winners winner
  pub loses : Contains rivals rival
  pub lead : margin + rival ≡ winner
  pub above : 0 < margin

module _ (records : List CvrRecord) (place : ℕ) (contest : Contest) where
  -- the selections of the contest at a place, by the votes of the records
  abbrev pub sides : Sides
  sides = sides_of place contest (choice_votes records place contest)

  -- the votes of each choice that wins, and of each that loses
  abbrev pub winner_votes : List ℕ
  winner_votes = map (total_of records place) sides.winners

  abbrev pub loser_votes : List ℕ
  loser_votes = map (total_of records place) sides.losers

  -- the votes of the slots together, where they are one more loser
  abbrev pub together : List ℕ
  together = if slots_count sides.losers sides.slots then slot_votes records place contest ∷ [] else []

  -- the votes of all that a winner is held against
  abbrev pub rival_votes : List ℕ
  rival_votes = loser_votes ++ together
