-- What is kept of sheets while the results of a count are made.
use Rattle.std.specs.Prelude.{◌≡◌, ◌+◌, List, [], ◌∷◌, ◌++◌, length, map}
use Rattle.std.specs.List.{flat_map}
use Rattle.vx_election_model.specs.declared.election.Election.{Election}
use Rattle.vx_rules.specs.declared.marks.SheetMarks.{SheetMarks}
use Rattle.vx_events.specs.declared.event.Event.{Event}
use Rattle.vx_center.specs.declared.rows.ExportSheet.{ExportSheet}
use Rattle.vx_center.specs.Sheets.{Added}
use Rattle.vx_tally.specs.declared.report.CvrRecord.{CvrRecord}
use Rattle.vx_tally.specs.Running.{SumsUp}
use Rattle.vx_results.specs.declared.counting.Counted.{Counted}
use Rattle.vx_results.specs.Counted.{left_on}
use Rattle.vx_results.specs.Figures.{sheet_record}
use Rattle.vx_results.specs.Report.{record_of}
use Rattle.vx_results.specs.Waiting.{waiting_on}

-- what is kept is of the sheets: the sums of their records, and how many of their contests wait
pub record AreCounted (election : Election) (kept : List Event) (seen : List Added) (counted : Counted) : Type 0 where
  pub totals : SumsUp (map (sheet_record election kept) seen) counted.totals
  pub waiting : counted.waiting ≡ length (flat_map (waiting_on election kept) seen)

-- one sheet more was counted
pub record HasSheet (election : Election) (sheet : SheetMarks) (row : ExportSheet) (old new : Counted) : Type 0 where
  pub totals : (records : List CvrRecord) → SumsUp records old.totals → SumsUp (records ++ record_of election row ∷ []) new.totals
  pub waiting : new.waiting ≡ old.waiting + left_on sheet row
