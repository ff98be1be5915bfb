-- What an export shows of the kept events: which contests stand in its rows, and as what. This project's own rules.
use Rattle.std.specs.Prelude.{◌≡◌, ℕ, Bool, true, false, List, [], filter, slice_get, Some}
use Rattle.std.specs.List.{flat_map, list_any}
use Rattle.vx_election_model.specs.declared.contest.Contest.{Contest}
use Rattle.vx_election_model.specs.declared.election.Election.{Election}
use Rattle.vx_election_model.specs.declared.reason.Reason.{Reason}
use Rattle.vx_rules.specs.declared.marks.ContestMarks.{ContestMarks}
use Rattle.vx_rules.specs.Reasons.{is_blank_sheet, is_marginal, is_reason}
use Rattle.vx_events.specs.declared.decision.Decision.{Decision}
use Rattle.vx_events.specs.declared.decision.Decision.TheVariants.{Selections, RuledOvervote, AcceptRead, NameWriteIn}
use Rattle.vx_events.specs.declared.event.Event.{Event}
use Rattle.vx_center.specs.declared.rows.Final.{Final}
use Rattle.vx_center.specs.Sheets.{Added, sheets_in}
use Rattle.vx_center.specs.Decisions.{decisions_of}
use Rattle.vx_center.specs.Exports.{final_in, row_of}
use Rattle.vx_center.specs.Waiting.{exports}

-- a contest of an added sheet with the decisions that were kept for it: its marks as they were read, with the last of
-- these decisions applied
abbrev pub finals_with : Election → List Event → Added → ContestMarks → List Final
finals_with election kept added marks =
    final_in marks (decisions_of kept added.key marks.contest) (slice_get election.contests marks.contest)

-- in the row of an added sheet stand exactly its exported contests, in the sheet's order
abbrev pub ExportedStand : Election → List Event → Type 0
ExportedStand election kept =
    (added : Added)
    → (row_of election kept added).finals
    ≡ flat_map (finals_with election kept added) (filter (exports election kept added) added.sheet.contests)

-- whether a decision says itself what a contest counts as, whatever was read
abbrev pub is_ruling : Decision → Bool
is_ruling (Selections options) = true
is_ruling RuledOvervote = true
is_ruling AcceptRead = false
is_ruling (NameWriteIn slot name) = false

-- an exported contest with a marginal option was ruled: Selections or RuledOvervote was accepted for it
abbrev pub MarginalAreRuled : Election → List Event → Type 0
MarginalAreRuled election kept =
    (sheet contest : ℕ) (added : Added) (marks : ContestMarks)
    → slice_get (sheets_in kept) sheet ≡ Some added → slice_get added.sheet.contests contest ≡ Some marks
    → exports election kept added marks ≡ true → list_any is_marginal marks.states ≡ true
    → list_any is_ruling (decisions_of kept added.key marks.contest) ≡ true

-- a contest that has an enabled reason and no decision isn't exported
abbrev pub ReasonsWait : Election → List Event → Type 0
ReasonsWait election kept =
    (added : Added) (marks : ContestMarks) (contest : Contest) (reason : Reason)
    → slice_get election.contests marks.contest ≡ Some contest
    → is_reason contest marks.states (is_blank_sheet added.sheet) election.reasons reason ≡ true
    → decisions_of kept added.key marks.contest ≡ []
    → exports election kept added marks ≡ false

-- an export of the kept events shows what was kept
pub record ShowsWhatWasKept (election : Election) (kept : List Event) : Type 0 where
  pub stand : ExportedStand election kept
  pub ruled : MarginalAreRuled election kept
  pub wait : ReasonsWait election kept
