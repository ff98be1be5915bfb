-- The selections of a contest: its choices with their votes, those that win and those that lose, and its write-in slots.
use Rattle.std.specs.Prelude.{ℕ, ◌-◌, Bool, true, false, List, length, map, filter, sum_by, slice_index}
use Rattle.std.specs.List.{range_with_len}
use Rattle.vx_election_model.specs.declared.contest.Contest.{Contest}
use Rattle.vx_election_model.specs.Options.{options_of}
use Rattle.vx_tally.specs.declared.report.CvrRecord.{CvrRecord}
use Rattle.vx_tally.specs.Totals.{total_of}
use Rattle.vx_sampling.specs.declared.sides.Sides.{Sides}
use Rattle.vx_sampling.specs.Standing.{is_as, wins}

-- the write-in slots stand behind the choices
abbrev pub slots_of : Contest → List ℕ
slots_of contest = range_with_len (length contest.choices) (options_of contest - length contest.choices)

module _ (records : List CvrRecord) (place : ℕ) (contest : Contest) where
  -- the votes of the choices of the contest at a place, in order
  abbrev pub choice_votes : List ℕ
  choice_votes = map (total_of records place) (range_with_len 0 (length contest.choices))

  -- the votes of its slots
  abbrev pub slot_votes : ℕ
  slot_votes = sum_by (total_of records place) (slots_of contest)

-- the choices that win, or those that lose
abbrev pub choices_where : ℕ → List ℕ → Bool → List ℕ
choices_where seats votes winning =
    filter (λ choice. is_as winning (wins seats votes (slice_index votes choice))) (range_with_len 0 (length votes))

-- the selections of the contest at a place, whose choices have those votes
abbrev pub sides_of : ℕ → Contest → List ℕ → Sides
sides_of place contest votes = record {
  contest = place;
  seats = contest.seats;
  winners = choices_where contest.seats votes true;
  losers = choices_where contest.seats votes false;
  slots = slots_of contest;
}
