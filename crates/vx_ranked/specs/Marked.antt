-- Sheets of which nothing was decided are ranked as they were marked.
use Rattle.std.specs.Prelude.{◌≡◌, ℕ, true, false, List, [], ◌∷◌, map, if◌then◌else◌, slice_get, Some}
use Rattle.vx_election_model.specs.declared.election.Election.{Election}
use Rattle.vx_rules.specs.declared.marks.ContestMarks.{ContestMarks}
use Rattle.vx_rules.specs.declared.marks.SheetMarks.{SheetMarks}
use Rattle.vx_events.specs.declared.event.Event.{Event}
use Rattle.vx_events.specs.declared.key.Key.{Key}
use Rattle.vx_center.specs.declared.rows.Final.{Final}
use Rattle.vx_center.specs.Decisions.{decisions_of}
use Rattle.vx_center.specs.Finals.{marked_options}
use Rattle.vx_center.specs.Histories.{IsHistory}
use Rattle.vx_center.specs.Sheets.{Added, sheets_in}
use Rattle.vx_ranked.specs.Members.{is_among}
use Rattle.vx_ranked.specs.Rankings.{finals_of, is_ranked, ranking_of, rankings_on}

-- what a contest counts as where its marked options are selected and nobody ruled it
abbrev pub final_as_marked : ContestMarks → Final
final_as_marked marks = record {
  contest = marks.contest;
  selected = marked_options marks.states;
  ruled = false;
  names = [];
  read = marks.states;
  decided = false;
}

-- the ranking that the marks of a sheet give
abbrev pub marked_ranking : SheetMarks → List ℕ → List ℕ
marked_ranking sheet contests = ranking_of (map final_as_marked sheet.contests) contests

-- nothing was decided of these contests of the sheet with a key
pub record AreUndecided (kept : List Event) (key : Key) (contests : List ℕ) : Type 0 where
  pub none : (contest : ℕ) → is_among contest contests ≡ true → decisions_of kept key contest ≡ []

-- So the ranking of a sheet of a history, where it has one, is that of its marks. A contest of which nothing was decided
-- and with a marginal option isn't exported, so a sheet with one in the group has no ranking.
abbrev pub UndecidedSheetsAreRankedAsMarked : Type 0
UndecidedSheetsAreRankedAsMarked =
    (election : Election) (kept : List Event) (contests : List ℕ) (place : ℕ) (added : Added)
    → IsHistory election kept → slice_get (sheets_in kept) place ≡ Some added → AreUndecided kept added.key contests
    → rankings_on election kept contests added
    ≡ (if is_ranked contests added.sheet (finals_of election kept added)
    then marked_ranking added.sheet contests ∷ []
    else [])
