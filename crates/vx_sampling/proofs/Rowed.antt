-- The rows of contests, one more at a time.
use Rattle.std.proofs.Common.{◌≡◌, ℕ, ◌+◌, List, [], ◌∷◌, ◌++◌, length, map, ap, ap₂, sym, ◌∙◌}
use Rattle.std.specs.Prelude.{slice_get, sum_by, Some}
use Rattle.std.specs.List.{flat_map, range_with_len}
use Rattle.vx_base.proofs.Ranges.{flat_map-laid}
use Rattle.vx_election_model.specs.declared.contest.Contest.{Contest}
use Rattle.vx_tally.specs.declared.report.CvrRecord.{CvrRecord}
use Rattle.vx_audit.specs.declared.hand.HandLine.{HandLine}
use Rattle.vx_sampling.specs.declared.rows.Row.{Row}
use Rattle.vx_tally.specs.Totals.{Summed, summed_of}
use Rattle.vx_sampling.specs.declared.rows.Told.{Told}
use Rattle.vx_sampling.specs.declared.sides.Sides.{Sides}
use Rattle.vx_sampling.specs.declared.standing.Standing.{Standing}
use Rattle.vx_sampling.specs.Rows.{row_at, row_of, told_by, told_of}
use Rattle.vx_sampling.specs.Sides.{choice_votes, sides_of, slot_votes, slots_of}
use Rattle.vx_sampling.specs.Standing.{standing_of}

module _ (records : List CvrRecord) (lines : List HandLine) (draws : List ℕ) (limit : ℕ) (contests : List Contest) where
  abbrev here : ℕ → List Row
  here place = row_at records lines draws limit place (slice_get contests place)

  pub one_row : (so_far now : List Row) (place : ℕ) (contest : Contest) (row : Row) → so_far ≡ flat_map here (range_with_len 0 place)
      → slice_get contests place ≡ Some contest → row ≡ row_of records lines draws limit place contest → now ≡ so_far ++ row ∷ []
      → now ≡ flat_map here (range_with_len 0 (place + 1))
  one_row so_far now place contest row before is made step =
      flat_map-laid here [] so_far now place before
      (step ∙ ap (λ (one : Row). so_far ++ one ∷ []) made ∙ ap (λ rows. so_far ++ rows) (sym (ap (row_at records lines draws limit place) is)))

-- what is told of a contest, from its votes, its slots, how it stands, and its selections
pub told_is : (records : List CvrRecord) (sums : Summed) (lines : List HandLine) (draws : List ℕ) (limit place : ℕ) (contest : Contest)
    (votes here there slots these : List ℕ) (written : ℕ) (standing : Standing) (sides : Sides) (told : Told)
    → sums ≡ summed_of records → votes ≡ map (sums.votes place) (range_with_len 0 (length contest.choices)) → here ≡ votes → there ≡ votes
    → slots ≡ slots_of contest → these ≡ slots → written ≡ sum_by (sums.votes place) these → standing ≡ standing_of contest.seats here written → sides ≡ sides_of place contest there
    → told ≡ told_by records lines draws limit sides standing → told ≡ told_of records lines draws limit place contest
told_is records sums lines draws limit place contest votes here there slots these written standing sides told tallied voted at-here at-there slotted at-these
    summed stands sided is =
    let votes-are : votes ≡ choice_votes records place contest =
    voted ∙ ap (λ (some : Summed). map (some.votes place) (range_with_len 0 (length contest.choices))) tallied in
    let written-are : written ≡ slot_votes records place contest =
    summed ∙ ap₂ (λ (some : Summed) (of : List ℕ). sum_by (some.votes place) of) tallied (at-these ∙ slotted) in
    is
    ∙ ap₂ (λ (by : Sides) (so : Standing). told_by records lines draws limit by so)
    (sided ∙ ap (sides_of place contest) (at-there ∙ votes-are))
    (stands ∙ ap₂ (λ (these : List ℕ) (n : ℕ). standing_of contest.seats these n) (at-here ∙ votes-are) written-are)
