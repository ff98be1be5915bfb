-- Which contests wait for a decision, and which is the next. This project's own rules.
use Rattle.std.specs.Prelude.{◌≡◌, ◌<◌, ◌≤◌, ◌⊎◌, ℕ, ◌&&◌, ◌||◌, Bool, true, false, not, List, [], ◌∷◌, slice_get, Option, Some, None}
use Rattle.std.specs.List.{list_any}
use Rattle.vx_grid.specs.declared.state.State.{State}
use Rattle.vx_election_model.specs.declared.contest.Contest.{Contest}
use Rattle.vx_election_model.specs.declared.election.Election.{Election}
use Rattle.vx_election_model.specs.declared.reason.Reason.TheVariants.{Overvote, Undervote, MarginalMark, BlankBallot, WriteIn}
use Rattle.vx_election_model.specs.declared.reason.ReasonSet.{ReasonSet}
use Rattle.vx_election_model.specs.Reasons.{has_reason}
use Rattle.vx_rules.specs.declared.marks.ContestMarks.{ContestMarks}
use Rattle.vx_rules.specs.declared.marks.SheetMarks.{SheetMarks}
use Rattle.vx_rules.specs.Reasons.{is_marginal, is_blank_sheet, reasons_of}
use Rattle.vx_events.specs.declared.event.Event.{Event}
use Rattle.vx_events.specs.declared.key.Key.{Key}
use Rattle.vx_events.specs.declared.decision.Decision.{Decision}
use Rattle.vx_center.specs.Sheets.{Added, sheets_in}
use Rattle.vx_center.specs.declared.decided.Decided.{Decided}
use Rattle.vx_center.specs.Decisions.{decided_of, decisions_on}

-- whether a set has any reason
abbrev pub has_any : ReasonSet → Bool
has_any set =
    has_reason set Overvote || has_reason set Undervote || has_reason set MarginalMark
    || has_reason set BlankBallot || has_reason set WriteIn

-- whether something was decided
abbrev pub is_decided : List Decision → Bool
is_decided [] = false
is_decided (decision ∷ decisions) = true

-- a contest is exported where something was decided of it, or where it has no marginal option and no
-- enabled reason
abbrev pub is_exported : Contest → ReasonSet → Bool → List State → List Decision → Bool
is_exported contest enabled sheet_blank states decisions =
    is_decided decisions
    || (not (list_any is_marginal states) && not (has_any (reasons_of contest states sheet_blank enabled)))

-- the same of a contest of a sheet of which so much was decided; a contest that the election hasn't is
-- never exported
abbrev pub exports_with : Election → Bool → List Decision → List State → Option Contest → Bool
exports_with election sheet_blank decisions states None = false
exports_with election sheet_blank decisions states (Some contest) =
    is_exported contest election.reasons sheet_blank states decisions

-- whether a contest of a sheet of which so much was decided is exported
abbrev pub exports_by : Election → Bool → List Decided → ContestMarks → Bool
exports_by election sheet_blank decided marks =
    exports_with election sheet_blank (decisions_on marks.contest decided) marks.states
    (slice_get election.contests marks.contest)

-- whether a contest of the sheet with a key waits, which is blank or not and was read so: it isn't exported yet
abbrev pub contest_waits : Election → List Event → Key → Bool → ContestMarks → Bool
contest_waits election kept key sheet_blank marks = not (exports_by election sheet_blank (decided_of kept key) marks)

-- whether a contest of an added sheet is exported
abbrev pub exports : Election → List Event → Added → ContestMarks → Bool
exports election kept added marks =
    exports_by election (is_blank_sheet added.sheet) (decided_of kept added.key) marks

-- whether a contest of a sheet waits, if the sheet has so many
abbrev pub waits_by : Election → SheetMarks → List Decided → Option ContestMarks → Bool
waits_by election sheet decided None = false
waits_by election sheet decided (Some marks) = not (exports_by election (is_blank_sheet sheet) decided marks)

-- whether a contest of a sheet waits, if so many sheets were added
abbrev pub waits_on : Election → List Event → ℕ → Option Added → Bool
waits_on election kept contest None = false
waits_on election kept contest (Some added) =
    waits_by election added.sheet (decided_of kept added.key) (slice_get added.sheet.contests contest)

-- whether the contest at a place of a sheet waits; the sheet is known by its place in the order of adding
abbrev pub waits_at : Election → List Event → ℕ → ℕ → Bool
waits_at election kept sheet contest = waits_on election kept contest (slice_get (sheets_in kept) sheet)

-- a sheet and a contest come before others: an earlier sheet, or an earlier contest of the same
abbrev pub IsBefore : ℕ → ℕ → ℕ → ℕ → Type 0
IsBefore sheet contest later_sheet later_contest =
    (sheet < later_sheet) ⊎ ((sheet ≡ later_sheet) × (contest < later_contest))

-- they come behind a place, or the queue is looked at from its beginning
abbrev pub IsBehind : Option (ℕ × ℕ) → ℕ → ℕ → Type 0
IsBehind None sheet contest = Unit {0}
IsBehind (Some after) sheet contest = IsBefore after.0 after.1 sheet contest

-- nothing waits behind a place
pub record NothingWaits (election : Election) (kept : List Event) (after : Option (ℕ × ℕ)) : Type 0 where
  pub none : (sheet contest : ℕ) → IsBehind after sheet contest → waits_at election kept sheet contest ≡ false

-- the first that waits behind a place
pub record IsFirstWaiting (election : Election) (kept : List Event) (after : Option (ℕ × ℕ)) (next : ℕ × ℕ)
    : Type 0 where
  pub behind : IsBehind after next.0 next.1
  pub waits : waits_at election kept next.0 next.1 ≡ true
  pub first : (sheet contest : ℕ) → IsBehind after sheet contest → IsBefore sheet contest next.0 next.1
      → waits_at election kept sheet contest ≡ false

-- what waits next behind a place: the first, if there is one
abbrev pub IsNextWaiting : Election → List Event → Option (ℕ × ℕ) → Option (ℕ × ℕ) → Type 0
IsNextWaiting election kept after None = NothingWaits election kept after
IsNextWaiting election kept after (Some next) = IsFirstWaiting election kept after next

-- no number from one on passes
pub record NoneFrom (test : ℕ → Bool) (from : ℕ) : Type 0 where
  pub none : (number : ℕ) → from ≤ number → test number ≡ false

-- the first number from one on that passes
pub record IsFirstFrom (test : ℕ → Bool) (from next : ℕ) : Type 0 where
  pub reached : from ≤ next
  pub passes : test next ≡ true
  pub before : (number : ℕ) → from ≤ number → number < next → test number ≡ false

-- the first number from one on that passes, if there is one
abbrev pub FirstFrom : (ℕ → Bool) → ℕ → Option ℕ → Type 0
FirstFrom test from None = NoneFrom test from
FirstFrom test from (Some next) = IsFirstFrom test from next

-- nothing waits from a sheet on
pub record NothingFrom (election : Election) (kept : List Event) (from : ℕ) : Type 0 where
  pub none : (sheet contest : ℕ) → from ≤ sheet → waits_at election kept sheet contest ≡ false

-- the first that waits from a sheet on
pub record IsFirstSheet (election : Election) (kept : List Event) (from : ℕ) (next : ℕ × ℕ) : Type 0 where
  pub reached : from ≤ next.0
  pub waits : waits_at election kept next.0 next.1 ≡ true
  pub first : (sheet contest : ℕ) → from ≤ sheet → IsBefore sheet contest next.0 next.1
      → waits_at election kept sheet contest ≡ false

-- what waits first from a sheet on, if anything does
abbrev pub FirstSheetFrom : Election → List Event → ℕ → Option (ℕ × ℕ) → Type 0
FirstSheetFrom election kept from None = NothingFrom election kept from
FirstSheetFrom election kept from (Some next) = IsFirstSheet election kept from next
