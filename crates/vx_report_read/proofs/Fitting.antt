-- What a row that fits has: contests that ascend, each of them valid, with selections that are there.
use Rattle.std.proofs.Common.{◌≡◌, ℕ, zero, suc, ◌+◌, ◌-◌, ◌<◌, ◌≤◌, Bool, true, false, cond, List, [], ◌∷◌, ◌++◌, length, map, refl, ap, ◌∙◌, arith}
use Rattle.std.specs.Prelude.{◌||◌, Option, Some, None, slice_index_or, nat_le}
use Rattle.std.specs.List.{AllByRecursion}
use Rattle.std.proofs.lemmas.Option.{slice_get_within}
use Rattle.vx_base.proofs.Booleans.{and-left, and-right}
use Rattle.vx_base.proofs.Numbers.{at_most-from_yes, equal-no}
use Rattle.vx_election_model.specs.declared.contest.Contest.{Contest}
use Rattle.vx_election_model.specs.declared.election.Election.{Election}
use Rattle.vx_election_model.specs.Options.{options_of}
use Rattle.vx_election_model.specs.Valid.{IsContest, IsValid}
use Rattle.vx_events.specs.declared.decision.WriteInName.{WriteInName}
use Rattle.vx_events.specs.declared.decision.WriteInName.TheVariants.{Words, Candidate}
use Rattle.vx_events.specs.Ascending.{ascends_from}
use Rattle.vx_center.specs.declared.rows.Final.{Final}
use Rattle.vx_cvr.specs.Votes.{is_slot, candidate_in, candidate_of}
use Rattle.vx_cvr.specs.Report.{no_contest, voted_for}
use Rattle.vx_tally.specs.Ids.{is_among}
use Rattle.vx_results.specs.Report.{contest_at}
use Rattle.vx_results.specs.Fitting.{IsFinalAt, IsSlotOf}

-- the numbers of elements
module _ {X : Type 0} (number : X → ℕ) where
  ascends-seam : (least : ℕ) (before : List X) (x : X) (back : List X) → ascends_from least (map number (before ++ x ∷ back)) ≡ true → least ≤ number x
  ascends-seam least [] x back up = at_most-from_yes least (number x) (and-left (nat_le least (number x)) _ up)
  ascends-seam least (y ∷ before) x back up =
      let low = at_most-from_yes least (number y) (and-left (nat_le least (number y)) _ up) in
      let rest = ascends-seam (number y + 1) before x back (and-right (nat_le least (number y)) _ up) in
      omega (arith, low, rest)

  -- a number is none of those before it
  pub among-none : (least : ℕ) (before : List X) (x : X) (back : List X) → ascends_from least (map number (before ++ x ∷ back)) ≡ true
      → is_among (number x) (map number before) ≡ false
  among-none least [] x back up = refl
  among-none least (y ∷ before) x back up =
      let above = ascends-seam (number y + 1) before x back (and-right (nat_le least (number y)) _ up) in
      ap (λ (b : Bool). b || is_among (number x) (map number before)) (equal-no (number x) (number y) (λ e. omega (arith, e, above)))
      ∙ among-none (number y + 1) before x back (and-right (nat_le least (number y)) _ up)

-- the contest of a final is valid
pub contest-valid : (election : Election) (final : Final) → IsValid election → IsFinalAt election final
    → IsContest (length election.parties) (length election.districts) (contest_at election final)
contest-valid election final valid is =
    valid.contests.each final.contest no_contest (slice_get_within election.contests final.contest (contest_at election final) is.there)

-- whom a slot is for is one of the candidates
named-in : (contest : Contest) (names : List (Option WriteInName)) (slot : ℕ) → AllByRecursion (IsSlotOf contest) names
    → IsSlotOf contest (slice_index_or names slot None)
named-in contest [] slot all = tt
named-in contest (name ∷ names) zero all = all.0
named-in contest (name ∷ names) (suc slot) all = named-in contest names slot all.1

-- the selection that votes are for is one of the contest's
pub voted-below : (contest : Contest) (final : Final) (option : ℕ) → AllByRecursion (IsSlotOf contest) final.names → option < options_of contest
    → voted_for option (candidate_of contest final option) < options_of contest
voted-below contest final option names below = by (is_slot contest option)
  where
    inside : (name : Option WriteInName) → IsSlotOf contest name → voted_for option (candidate_in name) < options_of contest
    inside None is = below
    inside (Some (Words words)) is = below
    inside (Some (Candidate number)) is = omega (arith, is)

    by : (b : Bool) → voted_for option (candidate_in (cond b (slice_index_or final.names (option - length contest.choices) None) None)) < options_of contest
    by true = inside (slice_index_or final.names (option - length contest.choices) None) (named-in contest final.names (option - length contest.choices) names)
    by false = below
