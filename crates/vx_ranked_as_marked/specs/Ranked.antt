-- What `ranked` counts of the sheets that runs before it counted.
use Rattle.std.specs.Prelude.{◌≡◌, ℕ, List, [], ◌∷◌, if◌then◌else◌, Ok}
use Rattle.vx_election_model.specs.declared.election.Election.{Election}
use Rattle.vx_events.specs.declared.event.Event.{Event}
use Rattle.vx_events.specs.declared.key.Key.{Key}
use Rattle.vx_sheet.specs.Margin.{MarkedSheet, sheet_marked}
use Rattle.vx_center.specs.Sheets.{Added}
use Rattle.vx_journal.specs.Replay.{replay_of}
use Rattle.vx_command_count.specs.Margin.{SaysEachMark}
use Rattle.vx_app.specs.Journals.{AreRuns, Run}
use Rattle.vx_headline.specs.Counted.{CountedBy}
use Rattle.vx_headline.specs.Exported.{sheets_with}
use Rattle.vx_ranked.specs.Marked.{AreUndecided, marked_ranking}
use Rattle.vx_ranked.specs.Rankings.{finals_of, is_ranked, rankings_on}

-- A marked sheet is the one that was added under its key, it says each mark of its two pages, and its ranking in these
-- contests, where it has one, is that of its marks.
pub record IsRankedAsMarked (election : Election) (kept : List Event) (key : Key) (sheet : MarkedSheet) (contests : List ℕ)
    : Type 0 where
  pub added : Added
  pub one_sheet : sheets_with key kept ≡ added ∷ []
  pub marked : added.sheet ≡ sheet_marked sheet
  pub front : SaysEachMark added.sheet sheet.front_plan sheet.front_marks
  pub back : SaysEachMark added.sheet sheet.back_plan sheet.back_marks
  pub ranked : rankings_on election kept contests added
      ≡ (if is_ranked contests added.sheet (finals_of election kept added)
      then marked_ranking (sheet_marked sheet) contests ∷ []
      else [])

-- so it is of each sheet of scans within the margin that runs counted, of whose contests nothing was decided, by the
-- events that the journal keeps behind them; and these are what `ranked` counts
abbrev pub MarkedPagesAreRanked : Type 0
MarkedPagesAreRanked =
    (election : Election) (runs : List Run) (left : List (List ℕ)) (kept : List Event) (key : Key) (sheet : MarkedSheet)
    (contests : List ℕ)
    → AreRuns election [] runs left → replay_of election left ≡ Ok kept → CountedBy election [] runs key sheet
    → AreUndecided kept key contests → IsRankedAsMarked election kept key sheet contests
