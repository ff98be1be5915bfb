-- What an export writes of the sheets that runs before it counted.
use Rattle.std.specs.Prelude.{◌≡◌, ◌==◌, ℕ, List, [], ◌∷◌, filter, slice_get, Some, Ok}
use Rattle.vx_io.specs.Outside.{Took}
use Rattle.vx_election_model.specs.declared.election.Election.{Election}
use Rattle.vx_rules.specs.declared.marks.ContestMarks.{ContestMarks}
use Rattle.vx_rules.specs.declared.marks.SheetMarks.{SheetMarks}
use Rattle.vx_rules.specs.Reasons.{is_blank_sheet}
use Rattle.vx_events.specs.declared.event.Event.{Event}
use Rattle.vx_events.specs.declared.key.Key.{Key}
use Rattle.vx_sheet.specs.Margin.{MarkedSheet, sheet_marked}
use Rattle.vx_center.specs.declared.rows.ExportSheet.{ExportSheet}
use Rattle.vx_center.specs.declared.rows.Final.{Final}
use Rattle.vx_center.specs.Decisions.{decided_of}
use Rattle.vx_center.specs.Exports.{final_if_exported, row_of}
use Rattle.vx_center.specs.Histories.{IsHistory}
use Rattle.vx_center.specs.Sheets.{Added, has_key, same_key, sheet_in, sheets_in}
use Rattle.vx_center.specs.Shown.{ShowsWhatWasKept}
use Rattle.vx_cvr.specs.Laws.{IsRowOfSheet}
use Rattle.vx_cvr.specs.Report.{report_of}
use Rattle.vx_cvr.specs.Rows.{rows_of}
use Rattle.vx_journal.specs.Replay.{replay_of}
use Rattle.vx_command_count.specs.Margin.{SaysEachMark}
use Rattle.vx_words.specs.declared.command.Command.TheVariants.{Export}
use Rattle.vx_app.specs.Journals.{AreRuns, IsRun, Run}
use Rattle.vx_headline.specs.Counted.{AddedBy, CountedBy}

-- an `export` that ended well, behind runs that began without a record
pub record IsExport (election : Election) (runs : List Run) (left : List (List ℕ)) (last : Run) (moment device : List ℕ)
    : Type 0 where
  pub are_runs : AreRuns election [] runs left
  pub is_run : IsRun election left last
  pub name : List ℕ
  pub is_export : last.command ≡ Export name moment device
  pub well : last.answer ≡ Ok tt

-- the sheets and the rows of a key, and the finals of a contest in a row
abbrev pub sheets_with : Key → List Event → List Added
sheets_with key kept = filter (has_key key) (sheets_in kept)

abbrev pub rows_with : Key → List ExportSheet → List ExportSheet
rows_with key rows = filter (λ (row : ExportSheet). same_key key row.key) rows

abbrev pub finals_on : ℕ → ExportSheet → List Final
finals_on contest row = filter (λ (final : Final). final.contest == contest) row.finals

-- what is exported of a contest of an added sheet: its marks with the last of its decisions applied, if it is exported
abbrev pub final_if : Election → List Event → Added → ContestMarks → List Final
final_if election kept added marks =
    final_if_exported election (is_blank_sheet added.sheet) (decided_of kept added.key) marks

-- a marked sheet is the one that was added under its key, and says each mark of its two pages; the report has one row of
-- that key, the sheet's; and in it each contest of the sheet stands once where it is exported, and else not
pub record StandsMarked (election : Election) (kept : List Event) (key : Key) (sheet : MarkedSheet) (added : Added)
    : Type 0 where
  pub keyed : added.key ≡ key
  pub marked : added.sheet ≡ sheet_marked sheet
  pub front : SaysEachMark added.sheet sheet.front_plan sheet.front_marks
  pub back : SaysEachMark added.sheet sheet.back_plan sheet.back_marks
  pub one_sheet : sheets_with key kept ≡ added ∷ []
  pub one_row : rows_with key (rows_of election kept) ≡ row_of election kept added ∷ []
  pub contests : (place : ℕ) (marks : ContestMarks) → slice_get added.sheet.contests place ≡ Some marks
      → finals_on marks.contest (row_of election kept added) ≡ final_if election kept added marks

-- all that the export wrote is the report of a history, which the journal keeps; it shows what was kept, and no row is of
-- a sheet that wasn't added; each sheet that a run counted stands in it as it was marked; and a key keeps the sheet that
-- was first added under it
pub record Exports (election : Election) (runs : List Run) (left : List (List ℕ)) (last : Run) (moment device : List ℕ)
    : Type 0 where
  pub kept : List Event
  pub are_kept : replay_of election left ≡ Ok kept
  pub history : IsHistory election kept
  pub report : Took last.taken last.taken_now (report_of election kept moment device)
  pub shows : ShowsWhatWasKept election kept
  pub rows : (n : ℕ) (row : ExportSheet) → slice_get (rows_of election kept) n ≡ Some row → IsRowOfSheet election kept row
  pub marked : (key : Key) (sheet : MarkedSheet) → CountedBy election [] runs key sheet
      → (added : Added) × StandsMarked election kept key sheet added
  pub first : (key : Key) (sheet : SheetMarks) → AddedBy election [] runs key sheet → sheet_in kept key ≡ Some sheet

-- so it is of every export that ended well, whatever runs came before it
abbrev pub MarkedPagesAreExported : Type 0
MarkedPagesAreExported =
    (election : Election) (runs : List Run) (left : List (List ℕ)) (last : Run) (moment device : List ℕ)
    → IsExport election runs left last moment device → Exports election runs left last moment device
