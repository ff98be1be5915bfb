-- What an export writes of a contest of a marked sheet of which nothing was decided: it waits where a reason is enabled,
-- and else it stands there as it was marked, in the numbers of the text.
use Rattle.std.specs.Prelude.{All, ◌≡◌, ◌<◌, ◌≤◌, ℕ, ◌-◌, ◌++◌, Bool, true, false, List, [], ◌∷◌, codes, length, map, slice_get, Some, Ok}
use Rattle.serde_json.specs.Data.{Data}
use Rattle.vx_io.specs.Outside.{Took}
use Rattle.vx_grid.specs.declared.state.State.{State}
use Rattle.vx_election_model.specs.declared.contest.Contest.{Contest}
use Rattle.vx_election_model.specs.declared.election.Election.{Election}
use Rattle.vx_election_model.specs.declared.reason.Reason.{Reason}
use Rattle.vx_rules.specs.declared.marks.ContestMarks.{ContestMarks}
use Rattle.vx_rules.specs.Reasons.{is_blank_sheet, is_reason}
use Rattle.vx_events.specs.declared.event.Event.{Event}
use Rattle.vx_events.specs.declared.event.Event.TheVariants.{Add, Claim, Release, Decide}
use Rattle.vx_events.specs.declared.key.Key.{Key}
use Rattle.vx_sheet.specs.Margin.{MarkedSheet, sheet_marked}
use Rattle.vx_center.specs.declared.rows.ExportSheet.{ExportSheet}
use Rattle.vx_center.specs.declared.rows.Final.{Final}
use Rattle.vx_center.specs.Decisions.{decisions_of}
use Rattle.vx_center.specs.Finals.{marked_options}
use Rattle.vx_cvr.specs.Json.{described, list, text, whole}
use Rattle.vx_cvr.specs.Names.{contest_name, selection_name}
use Rattle.vx_cvr.specs.Report.{class, counted, report_of, voted_for, write_in}
use Rattle.vx_cvr.specs.Rows.{rows_of}
use Rattle.vx_cvr.specs.Votes.{allocable, candidate_of, indication_of, name_of, status_words, write_ins}
use Rattle.vx_journal.specs.Replay.{replay_of}
use Rattle.vx_app.specs.Journals.{Run}
use Rattle.vx_headline.specs.Counted.{CountedBy}
use Rattle.vx_headline.specs.Exported.{IsExport, finals_on, rows_with}

-- how a selected option stands in the text, with so many votes
abbrev pub position_with : ℕ → Contest → Final → ℕ → Data
position_with votes contest final option = described
    (class (codes "SelectionPosition") ∷ write_in contest (name_of contest final option)
    ++ (codes "HasIndication", text (indication_of final option))
    ∷ (codes "IsAllocable", text (allocable contest final option))
    ∷ (codes "NumberVotes", whole votes) ∷ [])

abbrev pub selected_with : ℕ → Contest → Final → ℕ → Data
selected_with votes contest final option = described
    (class (codes "CVRContestSelection")
    ∷ (codes "ContestSelectionId", text (selection_name contest.id (voted_for option (candidate_of contest final option))))
    ∷ (codes "SelectionPosition", list (position_with votes contest final option ∷ [])) ∷ [])

-- how a contest stands in the text: its selections, with so many votes for each, its overvotes and its undervotes
abbrev pub counted_with : ℕ → ℕ → ℕ → Contest → Final → Data
counted_with votes over under contest final = described
    (class (codes "CVRContest")
    ∷ (codes "CVRContestSelection", list (map (selected_with votes contest final) final.selected))
    ∷ (codes "ContestId", text (contest_name contest.id))
    ∷ (codes "Overvotes", whole over)
    ∷ (codes "Status", list (map text (status_words contest final)))
    ∷ (codes "Undervotes", whole under)
    ∷ (codes "WriteIns", whole (write_ins contest final)) ∷ [])

-- A contest counts as it was marked: its selections are exactly the marked options, and nobody ruled it. Where no more
-- options are marked than it has seats, the text has a vote for each, and the rest are undervotes; where more are, it
-- has a vote for none, and all seats are overvotes.
pub record CountsAsMarked (contest : Contest) (states : List State) (final : Final) : Type 0 where
  pub selected : final.selected ≡ marked_options states
  pub unruled : final.ruled ≡ false
  pub within : length (marked_options states) ≤ contest.seats
      → counted contest final ≡ counted_with 1 0 (contest.seats - length (marked_options states)) contest final
  pub beyond : contest.seats < length (marked_options states)
      → counted contest final ≡ counted_with 0 contest.seats 0 contest final

-- a contest of a sheet that the runs counted, of which the journal keeps no decision
pub record IsUndecided (election : Election) (runs : List Run) (left : List (List ℕ)) (kept : List Event) (key : Key)
    (sheet : MarkedSheet) (marks : ContestMarks) (contest : Contest) : Type 0 where
  pub counted : CountedBy election [] runs key sheet
  pub are_kept : replay_of election left ≡ Ok kept
  pub place : ℕ
  pub is_on : slice_get (sheet_marked sheet).contests place ≡ Some marks
  pub is_contest : slice_get election.contests marks.contest ≡ Some contest
  pub undecided : decisions_of kept key marks.contest ≡ []

-- an event isn't a decision of a contest of the sheet under a key
abbrev pub DecidesNot : Key → ℕ → Event → Type 0
DecidesNot key contest (Add other sheet) = Unit {0}
DecidesNot key contest (Claim station other) = Unit {0}
DecidesNot key contest (Release station other) = Unit {0}
DecidesNot key contest (Decide station other on decision) = other ≡ key → on ≡ contest → ⊥

-- a contest of a sheet that the runs counted is undecided where no event of the journal decides it
abbrev pub UntouchedContestsAreUndecided : Type 0
UntouchedContestsAreUndecided =
    (election : Election) (runs : List Run) (left : List (List ℕ)) (kept : List Event) (key : Key) (sheet : MarkedSheet)
    (place : ℕ) (marks : ContestMarks) (contest : Contest)
    → CountedBy election [] runs key sheet → replay_of election left ≡ Ok kept
    → slice_get (sheet_marked sheet).contests place ≡ Some marks
    → slice_get election.contests marks.contest ≡ Some contest
    → All (DecidesNot key marks.contest) kept → IsUndecided election runs left kept key sheet marks contest

-- a reason for a person to look at it is there and enabled, or it isn't
abbrev pub has : Election → MarkedSheet → ContestMarks → Contest → Reason → Bool
has election sheet marks contest reason =
    is_reason contest marks.states (is_blank_sheet (sheet_marked sheet)) election.reasons reason

-- the export wrote the report of the kept events, which has one row of the key, and these finals of the contest in it
pub record WroteFinals (election : Election) (last : Run) (moment device : List ℕ) (kept : List Event) (key : Key)
    (contest : ℕ) (finals : List Final) : Type 0 where
  pub report : Took last.taken last.taken_now (report_of election kept moment device)
  pub row : ExportSheet
  pub one_row : rows_with key (rows_of election kept) ≡ row ∷ []
  pub finals_are : finals_on contest row ≡ finals

-- where no reason is there, it stands in the report once, as it was marked
abbrev pub UndecidedContestsAreExportedAsMarked : Type 0
UndecidedContestsAreExportedAsMarked =
    (election : Election) (runs : List Run) (left : List (List ℕ)) (last : Run) (moment device : List ℕ)
    (kept : List Event) (key : Key) (sheet : MarkedSheet) (marks : ContestMarks) (contest : Contest)
    → IsExport election runs left last moment device → IsUndecided election runs left kept key sheet marks contest
    → ((reason : Reason) → has election sheet marks contest reason ≡ false)
    → (final : Final) × CountsAsMarked contest marks.states final
    × WroteFinals election last moment device kept key marks.contest (final ∷ [])

-- where one is, it stands nowhere in the report
abbrev pub UndecidedReasonsWait : Type 0
UndecidedReasonsWait =
    (election : Election) (runs : List Run) (left : List (List ℕ)) (last : Run) (moment device : List ℕ)
    (kept : List Event) (key : Key) (sheet : MarkedSheet) (marks : ContestMarks) (contest : Contest) (reason : Reason)
    → IsExport election runs left last moment device → IsUndecided election runs left kept key sheet marks contest
    → has election sheet marks contest reason ≡ true
    → WroteFinals election last moment device kept key marks.contest []
