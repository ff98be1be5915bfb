-- How far a walk over the sheets and their contests has come in the queue.
use Rattle.std.specs.Prelude.{◌≡◌, ◌<◌, ◌≤◌, ◌⊎◌, ℕ, ◌+◌, true, false, List, [], ◌∷◌, ◌++◌, length, take, drop, slice_get, Option, Some, None}
use Rattle.std.specs.List.{concat, flat_map}
use Rattle.vx_election_model.specs.declared.election.Election.{Election}
use Rattle.vx_events.specs.declared.event.Event.{Event}
use Rattle.vx_events.specs.declared.key.Key.{Key}
use Rattle.vx_rules.specs.declared.marks.SheetMarks.{SheetMarks}
use Rattle.vx_center.specs.Sheets.{added_from, sheets_in}
use Rattle.vx_center.specs.Waiting.{IsBefore, waits_at}
use Rattle.vx_command_queue.specs.Queue.{sheet_lines}

-- a contest of a sheet is this one or comes behind it
abbrev pub IsFrom : ℕ → ℕ → ℕ → ℕ → Type 0
IsFrom sheet contest later_sheet later_contest =
    (sheet < later_sheet) ⊎ ((sheet ≡ later_sheet) × (contest ≤ later_contest))

-- nothing waits from a contest of a sheet on
pub record NoneWaits (election : Election) (kept : List Event) (sheet contest : ℕ) : Type 0 where
  pub none : (s c : ℕ) → IsFrom sheet contest s c → waits_at election kept s c ≡ false

-- the first that waits from there on
pub record IsFirst (election : Election) (kept : List Event) (sheet contest : ℕ) (next : ℕ × ℕ) : Type 0 where
  pub reached : IsFrom sheet contest next.0 next.1
  pub waits : waits_at election kept next.0 next.1 ≡ true
  pub first : (s c : ℕ) → IsFrom sheet contest s c → IsBefore s c next.0 next.1 → waits_at election kept s c ≡ false

-- what waits first from there on, if anything does
abbrev pub IsNextFrom : Election → List Event → ℕ → ℕ → Option (ℕ × ℕ) → Type 0
IsNextFrom election kept sheet contest None = NoneWaits election kept sheet contest
IsNextFrom election kept sheet contest (Some next) = IsFirst election kept sheet contest next

-- the sheet with a place in the order of adding
pub record IsSheetAt (kept : List Event) (place : ℕ) (key : Key) (sheet : SheetMarks) : Type 0 where
  pub at : ℕ
  pub there : slice_get (sheets_in kept) place ≡ Some (record { at = at; key = key; sheet = sheet })

-- one line, which a text got
pub record GotLine (lines : List (List ℕ)) (old new : List ℕ) : Type 0 where
  pub line : List ℕ
  pub one : lines ≡ line ∷ []
  pub got : new ≡ old ++ line

-- a text and a count got lines
pub record GotLines (lines : List (List ℕ)) (old new : List ℕ) (count count_now : ℕ) : Type 0 where
  pub got : new ≡ old ++ concat lines
  pub counted : count_now ≡ count + length lines

-- the events before an index were walked over, and with them the sheets before a place
pub record IsUpTo (election : Election) (kept : List Event) (index place : ℕ) (text : List ℕ) (count : ℕ)
    (next : Option (ℕ × ℕ)) : Type 0 where
  pub below : place ≤ index
  pub left : drop place (sheets_in kept) ≡ added_from index (drop index kept)
  pub lines : GotLines (flat_map (sheet_lines election kept) (take place (sheets_in kept))) [] text 0 count
  pub next_is : IsNextFrom election kept place 0 next
