-- Histories of calls: which are legal, and what the counting machine has kept behind one.
use Rattle.std.specs.Prelude.{◌≡◌, ℕ, if◌then◌else◌, List, [], ◌∷◌, ◌++◌, map, take, slice_get, Some}
use Rattle.std.specs.List.{flat_map}
use Rattle.vx_events.specs.declared.event.Event.{Event}
use Rattle.vx_refusals.specs.declared.reply.Reply.{Reply}
use Rattle.vx_center.specs.Kept.{Kept}
use Rattle.vx_center.specs.Replies.{reply_of, is_done}
use Rattle.vx_shared.specs.declared.history.Entry.{Entry}

-- a call: its event and its reply
abbrev pub entry : Event → Reply → Entry
entry event reply = record { event = event; reply = reply }

-- the events of a history, in order
abbrev pub events_in : List Entry → List Event
events_in history = map (λ (call : Entry). call.event) history

-- the event of a call, where it was answered with Done
abbrev pub done_of : Entry → List Event
done_of call = if is_done call.reply then call.event ∷ [] else []

-- the Done events of a history, in order
abbrev pub done_events : List Entry → List Event
done_events history = flat_map done_of history

-- the machine behind a history: its first kept events, followed by the Done events
abbrev pub after : Kept → List Entry → Kept
after start history = record { election = start.election; events = start.events ++ done_events history }

-- each reply is the machine's, behind the first kept events and the Done events before it
pub record IsLegal (start : Kept) (history : List Entry) : Type 0 where
  pub replies : (place : ℕ) (call : Entry) → slice_get history place ≡ Some call
      → call.reply ≡ reply_of start.election (start.events ++ done_events (take place history)) call.event

-- what the turn protects is seen as: the machine before the first call, and the history
pub record Stored : Type 0 where
  pub start : Kept
  pub history : List Entry

abbrev pub stored : Kept → List Entry → Stored
stored start history = record { start = start; history = history }

-- what it keeps: the history is legal, and the center is the machine behind it
pub record IsHeld (start center : Kept) (history : List Entry) : Type 0 where
  pub legal : IsLegal start history
  pub kept : center ≡ after start history
