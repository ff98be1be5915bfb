-- What the counts of a summary come to.
use Rattle.std.specs.Prelude.{◌≡◌, ℕ, List, [], length, sum_by}
use Rattle.std.specs.List.{range_with_len}
use Rattle.vx_election_model.specs.declared.election.Election.{Election}
use Rattle.vx_election_model.specs.Valid.{IsValid}
use Rattle.vx_events.specs.declared.event.Event.{Event}
use Rattle.vx_center.specs.Histories.{IsHistory}
use Rattle.vx_center.specs.Sheets.{sheets_in}
use Rattle.vx_tally.specs.declared.report.CvrRecord.{CvrRecord}
use Rattle.vx_tally.specs.Totals.{over_of, total_of, under_of}
use Rattle.vx_results.specs.declared.groups.Group.{Group}
use Rattle.vx_results.specs.Figures.{batch_sheets, names_of, precinct_units, records_at}
use Rattle.vx_results.specs.Firsts.{texts_of}
use Rattle.vx_results.specs.Groups.{groups_of}
use Rattle.vx_results.specs.Report.{report_of_events}
use Rattle.vx_results.specs.Summary.{group_records}
use Rattle.vx_results.specs.Waiting.{waiting_in}

-- all units of precincts, with all kinds
abbrev pub all_groups : Election → List Group
all_groups election = groups_of (range_with_len 0 8) (precinct_units election)

-- the records of the report of kept events
abbrev pub all_records : Election → List Event → List CvrRecord
all_records election kept = (report_of_events election kept).records

-- summed over all units and kinds, the counts of a contest are those of the report
pub record AddsUp (election : Election) (kept : List Event) : Type 0 where
  pub votes : (contest selection : ℕ)
      → sum_by (λ group. total_of (group_records election kept group) contest selection) (all_groups election)
      ≡ total_of (all_records election kept) contest selection
  pub over : (contest : ℕ)
      → sum_by (λ group. over_of (group_records election kept group) contest) (all_groups election)
      ≡ over_of (all_records election kept) contest
  pub under : (contest : ℕ)
      → sum_by (λ group. under_of (group_records election kept group) contest) (all_groups election)
      ≡ under_of (all_records election kept) contest

abbrev pub SummaryAddsUp : Type 0
SummaryAddsUp = (election : Election) (kept : List Event) → IsValid election → IsHistory election kept → AddsUp election kept

-- of no events each count is 0, and there is no batch and no name
pub record IsEmpty (election : Election) : Type 0 where
  pub sheets : (kind unit : ℕ) → length (records_at election [] kind unit) ≡ 0
  pub votes : (kind unit contest selection : ℕ) → total_of (records_at election [] kind unit) contest selection ≡ 0
  pub over : (kind unit contest : ℕ) → over_of (records_at election [] kind unit) contest ≡ 0
  pub under : (kind unit contest : ℕ) → under_of (records_at election [] kind unit) contest ≡ 0
  pub batches : texts_of (batch_sheets election [] (sheets_in [])) ≡ []
  pub names : (contest : ℕ) → texts_of (names_of election [] (sheets_in []) contest) ≡ []
  pub waiting : length (waiting_in election []) ≡ 0

abbrev pub EmptySummary : Type 0
EmptySummary = (election : Election) → IsEmpty election
