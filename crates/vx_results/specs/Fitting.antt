-- What a row of a history has: a card that is there, and contests that ascend, with options that are there.
use Rattle.std.specs.Prelude.{◌≡◌, ◌<◌, ◌≤◌, ℕ, ◌+◌, true, List, length, map, slice_get, Option, Some, None, ⊤}
use Rattle.std.specs.List.{AllByRecursion}
use Rattle.vx_election_model.specs.declared.contest.Contest.{Contest}
use Rattle.vx_election_model.specs.declared.election.Election.{Election}
use Rattle.vx_election_model.specs.Options.{options_of}
use Rattle.vx_styles.specs.Cards.{cards_of}
use Rattle.vx_events.specs.declared.decision.WriteInName.{WriteInName}
use Rattle.vx_events.specs.declared.decision.WriteInName.TheVariants.{Words, Candidate}
use Rattle.vx_events.specs.Ascending.{ascends_from}
use Rattle.vx_events.specs.Fits.{is_key}
use Rattle.vx_center.specs.declared.rows.ExportSheet.{ExportSheet}
use Rattle.vx_center.specs.declared.rows.Final.{Final}
use Rattle.vx_results.specs.Report.{contest_at}

-- options that may be selected in a contest
pub record AreOptions (contest : Contest) (options : List ℕ) : Type 0 where
  pub few : length options ≤ contest.seats + options_of contest
  pub each : AllByRecursion (λ (option : ℕ). option < options_of contest) options

-- a candidate who is named is one of the contest's
abbrev pub IsNameIn : Contest → WriteInName → Type 0
IsNameIn contest (Words words) = ⊤
IsNameIn contest (Candidate number) = number < length contest.choices

abbrev pub IsSlotOf : Contest → Option WriteInName → Type 0
IsSlotOf contest None = ⊤
IsSlotOf contest (Some name) = IsNameIn contest name

-- an exported contest, as one of the election
pub record IsFinalAt (election : Election) (final : Final) : Type 0 where
  pub there : slice_get election.contests final.contest ≡ Some (contest_at election final)
  pub options : AreOptions (contest_at election final) final.selected
  pub names : AllByRecursion (IsSlotOf (contest_at election final)) final.names

abbrev pub final_number : Final → ℕ
final_number final = final.contest

-- a row of a history
pub record IsRow (election : Election) (row : ExportSheet) : Type 0 where
  pub key : is_key row.key ≡ true
  pub card : row.card < length (cards_of election)
  pub front : row.front < 64
  pub finals : AllByRecursion (IsFinalAt election) row.finals
  pub ascend : ascends_from 0 (map final_number row.finals) ≡ true
  pub few : length row.finals ≤ 500
