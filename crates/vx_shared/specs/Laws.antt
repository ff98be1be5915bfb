-- What passes gain, from their first call to the close.
use Rattle.std.specs.Prelude.{◌≡◌, ◌≤◌, ℕ, ◌+◌, true, List, [], ◌∷◌, ◌++◌, length, replicate, slice_get, None, Some}
use Rattle.vx_rules.specs.declared.marks.SheetMarks.{SheetMarks}
use Rattle.vx_events.specs.declared.event.Event.{Event}
use Rattle.vx_events.specs.declared.event.Event.TheVariants.{Add}
use Rattle.vx_events.specs.declared.key.Key.{Key}
use Rattle.vx_shared.specs.Calls.{Known}
use Rattle.vx_shared.specs.Gained.{HasMade, HasRun}
use Rattle.vx_shared.specs.Interleaving.{Interleaving}
use Rattle.vx_center.specs.Kept.{Kept}
use Rattle.vx_center.specs.Replies.{event_limit}
use Rattle.vx_center.specs.Sheets.{place_in}
use Rattle.vx_shared.specs.declared.history.Entry.{Entry}
use Rattle.vx_shared.specs.Legal.{IsLegal, done_events, events_in}

-- at first nothing is made with a pass
abbrev pub NothingIsMade : Type 0
NothingIsMade = (pass : Known) → HasMade pass [] pass

-- where all calls of a history were made of lists by a pass that had made none before, the history's events interleave the lists
abbrev pub HistoriesInterleave : Type 0
HistoriesInterleave =
    (old now : Known) (lists : List (List Event)) → old.own ≡ [] → HasRun old lists now
    → now.own ≡ replicate (length now.seen) true → Interleaving lists (events_in now.seen)

-- behind whatever was kept, lists of events have a history: a legal one whose events interleave them
pub record HasHistory (start : Kept) (lists : List (List Event)) : Type 0 where
  pub history : List Entry
  pub legal : IsLegal start history
  pub interleaved : Interleaving lists (events_in history)

abbrev pub ListsHaveHistories : Type 0
ListsHaveHistories = (start : Kept) (lists : List (List Event)) → HasHistory start lists

-- how many events lists have
abbrev pub events_in_all : List (List Event) → ℕ
events_in_all [] = 0
events_in_all (list ∷ lists) = length list + events_in_all lists

-- an event is of one of some lists
pub record IsOfList (lists : List (List Event)) (event : Event) : Type 0 where
  pub place : ℕ
  pub list : List Event
  pub at : slice_get lists place ≡ Some list
  pub n : ℕ
  pub on : slice_get list n ≡ Some event

-- where events interleave lists, each event of each list comes, each that comes is of one of them, and no more come than
-- the lists have
pub record InterleavingsAreWhole : Type 0 where
  pub come : (events : List Event) (lists : List (List Event)) → Interleaving lists events
      → (place : ℕ) (list : List Event) (n : ℕ) (event : Event) → slice_get lists place ≡ Some list → slice_get list n ≡ Some event
      → (at : ℕ) × (slice_get events at ≡ Some event)
  pub are_of : (events : List Event) (lists : List (List Event)) → Interleaving lists events
      → (at : ℕ) (event : Event) → slice_get events at ≡ Some event → IsOfList lists event
  pub no_more : (events : List Event) (lists : List (List Event)) → Interleaving lists events → length events ≤ events_in_all lists

-- an event stands among the Done ones of a history
pub record IsDoneIn (history : List Entry) (event : Event) : Type 0 where
  pub front : List Event
  pub back : List Event
  pub are : done_events history ≡ front ++ event ∷ back

-- the calls of a history add one sheet alone under a key
abbrev pub AddOnly : List Entry → Key → SheetMarks → Type 0
AddOnly history key sheet =
    (n : ℕ) (call : Entry) (other : SheetMarks)
    → slice_get history n ≡ Some call → call.event ≡ Add key other → other ≡ sheet

-- so a call that adds it is Done, where the key is new and there is room for all events
abbrev pub FirstAddsAreDone : Type 0
FirstAddsAreDone =
    (start : Kept) (history : List Entry) (key : Key) (sheet : SheetMarks) (place : ℕ) (call : Entry)
    → IsLegal start history → place_in start.events key ≡ None
    → length start.events + length history ≤ event_limit → AddOnly history key sheet
    → slice_get history place ≡ Some call → call.event ≡ Add key sheet → IsDoneIn history (Add key sheet)
