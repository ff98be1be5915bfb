-- The sheets that were added.
use Rattle.std.specs.Prelude.{◌≡◌, ℕ, ◌+◌, ◌&&◌, ◌==◌, Bool, true, List, [], ◌∷◌, ◌++◌, bytes_eq, find, Option, Some, None}
use Rattle.std.specs.List.{position_from}
use Rattle.vx_election_model.specs.declared.election.Election.{Election}
use Rattle.vx_rules.specs.declared.marks.ContestMarks.{ContestMarks}
use Rattle.vx_rules.specs.declared.marks.SheetMarks.{SheetMarks}
use Rattle.vx_events.specs.declared.event.Event.{Event}
use Rattle.vx_events.specs.declared.event.Event.TheVariants.{Add, Claim, Release, Decide}
use Rattle.vx_events.specs.declared.key.Key.{Key}
use Rattle.vx_events.specs.Fits.{is_sheet}

-- a sheet that was added, with the place of its event among the kept ones
pub record Added : Type 0 where
  pub at : ℕ
  pub key : Key
  pub sheet : SheetMarks

-- the key of the sheet of a batch with a number
abbrev pub key_of : List ℕ → ℕ → Key
key_of batch number = record { batch = batch; number = number }

-- two keys are the same: one batch, one number
abbrev pub same_key : Key → Key → Bool
same_key one other = bytes_eq one.batch other.batch && one.number == other.number

-- the sheet that an event adds, if it is an Add
abbrev pub added_by : ℕ → Event → List Added
added_by place (Add key sheet) = record { at = place; key = key; sheet = sheet } ∷ []
added_by place (Claim station key) = []
added_by place (Release station key) = []
added_by place (Decide station key contest decision) = []

-- the sheets that events add, the first of which has that place
abbrev pub added_from : ℕ → List Event → List Added
added_from place [] = []
added_from place (event ∷ events) = added_by place event ++ added_from (place + 1) events

-- the sheets in the order of adding
abbrev pub sheets_in : List Event → List Added
sheets_in kept = added_from 0 kept

-- whether a sheet was added with a key
abbrev pub has_key : Key → Added → Bool
has_key key added = same_key key added.key

-- the place of the sheet with a key, in the order of adding
abbrev pub place_in : List Event → Key → Option ℕ
place_in kept key = position_from (has_key key) 0 (sheets_in kept)

-- the sheet of an added one
abbrev pub sheet_of : Option Added → Option SheetMarks
sheet_of None = None
sheet_of (Some added) = Some added.sheet

-- the sheet of the Add with a key, if there is one
abbrev pub sheet_in : List Event → Key → Option SheetMarks
sheet_in kept key = sheet_of (find (has_key key) (sheets_in kept))

-- a sheet that was added with a key: its own key is that one, and it is one of the election's
pub record IsSheetOf (election : Election) (kept : List Event) (key own : Key) (sheet : SheetMarks) : Type 0 where
  pub same : key ≡ own
  pub there : sheet_in kept key ≡ Some sheet
  pub fits : is_sheet election sheet ≡ true

-- what a contest was read as on a sheet, if the sheet has it
abbrev pub marks_on : SheetMarks → ℕ → Option ContestMarks
marks_on sheet contest = find (λ (marks : ContestMarks). marks.contest == contest) sheet.contests
