-- What was exported is read, as what the report of a history says.
use Rattle.std.specs.Prelude.{◌≡◌, ℕ, if◌then◌else◌, List, map, Err, Ok, Some}
use Rattle.std.specs.List.{flat_map}
use Rattle.std.specs.Str.{is_utf8}
use Rattle.serde_json.specs.Read.{read}
use Rattle.vx_election_model.specs.declared.election.Election.{Election}
use Rattle.vx_election_model.specs.Valid.{IsValid}
use Rattle.vx_events.specs.declared.event.Event.{Event}
use Rattle.vx_center.specs.declared.rows.ExportSheet.{ExportSheet}
use Rattle.vx_center.specs.declared.rows.Final.{Final}
use Rattle.vx_center.specs.Histories.{IsHistory}
use Rattle.vx_cvr.specs.Votes.{candidate_of, votes_of}
use Rattle.vx_cvr.specs.Rows as cvr
use Rattle.vx_cvr.specs.Report.{voted_for, report_over, report_of}
use Rattle.vx_tally.specs.declared.fault.ReportFault.TheVariants.{NotJson}
use Rattle.vx_tally.specs.declared.report.Report.{Report}
use Rattle.vx_tally.specs.Reading.{report_in_bytes}
use Rattle.vx_tally.specs.Totals as totals
use Rattle.vx_results.specs.Report.{contest_at, report_of_events, unit_of}
use Rattle.vx_report_read.specs.Texts.{AreOfJournal, AreOfWords}

-- the report of a history is read back as the value that it was written from
abbrev pub ReportsAreReadBack : Type 0
ReportsAreReadBack =
    (election : Election) (kept : List Event) (moment id : List ℕ) → IsValid election → IsHistory election kept
    → read (report_of election kept moment id) ≡ Some (report_over election (cvr.rows_of election kept) moment id)

-- the report of a history is read as what it says, or as no JSON where its bytes aren't UTF-8
abbrev pub HistoriesAreRead : Type 0
HistoriesAreRead =
    (election : Election) (kept : List Event) (moment id : List ℕ) → IsValid election → IsHistory election kept
    → report_in_bytes (report_of election kept moment id)
    ≡ (if is_utf8 (report_of election kept moment id) then Ok (report_of_events election kept) else Err NotJson)

-- what `export` writes of a journal is read as what it says
abbrev pub ReportsAreRead : Type 0
ReportsAreRead =
    (election : Election) (kept : List Event) (moment device : List ℕ) → AreOfJournal election kept → AreOfWords moment device
    → report_in_bytes (report_of election kept moment device) ≡ Ok (report_of_events election kept)

-- the row of a selected option
abbrev pub exported_vote : Election → ExportSheet → Final → ℕ → totals.Row
exported_vote election row final option = record {
  unit = unit_of election row;
  contest = final.contest;
  selection = voted_for option (candidate_of (contest_at election final) final option);
  votes = votes_of (contest_at election final) final option;
}

-- the rows of a sheet: the selected options of its exported contests
abbrev pub exported_by : Election → ExportSheet → List totals.Row
exported_by election row = flat_map (λ (final : Final). map (exported_vote election row final) final.selected) row.finals

-- the exported selections of a history's sheets, with their votes, in the report's order
abbrev pub exported_rows : Election → List Event → List totals.Row
exported_rows election kept = flat_map (exported_by election) (cvr.rows_of election kept)

-- of what a history's report is read as, the rows are those
abbrev pub RowsAreTheExported : Type 0
RowsAreTheExported =
    (election : Election) (kept : List Event) (moment id : List ℕ) (report : Report) → IsValid election → IsHistory election kept
    → report_in_bytes (report_of election kept moment id) ≡ Ok report
    → totals.rows_of report.records ≡ exported_rows election kept
