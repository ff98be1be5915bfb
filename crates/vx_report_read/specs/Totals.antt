-- What the totals of an exported report are: sums over the exported contests of the sheets that were added.
use Rattle.std.specs.Prelude.{◌≡◌, ℕ, List, filter, map, Ok}
use Rattle.std.specs.List.{flat_map}
use Rattle.vx_election_model.specs.declared.election.Election.{Election}
use Rattle.vx_election_model.specs.Valid.{IsValid}
use Rattle.vx_rules.specs.declared.marks.ContestMarks.{ContestMarks}
use Rattle.vx_events.specs.declared.event.Event.{Event}
use Rattle.vx_center.specs.declared.rows.Final.{Final}
use Rattle.vx_center.specs.Exports.{row_of}
use Rattle.vx_center.specs.Histories.{IsHistory}
use Rattle.vx_center.specs.Sheets.{Added, sheets_in}
use Rattle.vx_center.specs.Shown.{finals_with}
use Rattle.vx_center.specs.Waiting.{exports}
use Rattle.vx_cvr.specs.Report.{report_of}
use Rattle.vx_tally.specs.declared.report.CvrRecord.{CvrRecord}
use Rattle.vx_tally.specs.declared.report.Report.{Report}
use Rattle.vx_tally.specs.Reading.{report_in_bytes}
use Rattle.vx_tally.specs.Totals.{Row, votes_of, is_for, is_for_in, total_of, total_in_of}
use Rattle.vx_report_read.specs.Exported.{exported_vote}

-- the rows of a contest of an added sheet: the options that count as selected by the last decisions
abbrev pub rows_with : Election → List Event → Added → ContestMarks → List Row
rows_with election kept added marks =
    flat_map (λ (final : Final). map (exported_vote election (row_of election kept added) final) final.selected) (finals_with election kept added marks)

-- the rows of an added sheet: those of its exported contests, and of none that waits
abbrev pub rows_on : Election → List Event → Added → List Row
rows_on election kept added = flat_map (rows_with election kept added) (filter (exports election kept added) added.sheet.contests)

-- the rows of all sheets that were added, in the order of adding
abbrev pub kept_rows : Election → List Event → List Row
kept_rows election kept = flat_map (rows_on election kept) (sheets_in kept)

-- the totals of records are the sums over rows: of all units, and of each
pub record AreTotalsOver (records : List CvrRecord) (rows : List Row) : Type 0 where
  pub all : (contest selection : ℕ) → total_of records contest selection ≡ votes_of (is_for contest selection) rows
  pub each : (unit contest selection : ℕ) → total_in_of records unit contest selection ≡ votes_of (is_for_in unit contest selection) rows

-- the totals of what a history's report is read as are the sums over the exported contests of its sheets
abbrev pub TotalsAreTheExported : Type 0
TotalsAreTheExported =
    (election : Election) (kept : List Event) (moment id : List ℕ) (report : Report) → IsValid election → IsHistory election kept
    → report_in_bytes (report_of election kept moment id) ≡ Ok report → AreTotalsOver report.records (kept_rows election kept)
