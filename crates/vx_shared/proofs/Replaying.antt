-- Lists of events, one behind the other, as a history.
use Rattle.std.proofs.Common.{◌≡◌, List, [], ◌∷◌, ◌++◌, refl, ap, sym, ◌∙◌, subst, append_assoc}
use Rattle.std.proofs.lemmas.List.{append-nil}
use Rattle.std.proofs.lemmas.List.Elements.{All-nil, All-cons}
use Rattle.vx_events.specs.declared.event.Event.{Event}
use Rattle.vx_refusals.specs.declared.reply.Reply.{Reply}
use Rattle.vx_center.specs.Kept.{Kept}
use Rattle.vx_center.specs.Replies.{reply_of}
use Rattle.vx_shared.specs.declared.history.Entry.{Entry}
use Rattle.vx_shared.specs.Interleaving.{Interleaving}
use Rattle.vx_shared.specs.Laws.{HasHistory}
use Rattle.vx_shared.specs.Legal.{IsLegal, done_events, entry, events_in}
use Rattle.vx_shared.proofs.Legally.{legal_more}
use Rattle.vx_shared.proofs.Mixing.{only_right}

-- the lists, one behind the other
abbrev joined : List (List Event) → List Event
joined [] = []
joined (list ∷ lists) = list ++ joined lists

first_then : (list : List Event) (lists : List (List Event)) (events : List Event) → Interleaving lists events → Interleaving (list ∷ lists) (list ++ events)
first_then [] lists events rest =
    only_right events ([] ∷ []) lists (All-cons (λ (l : List Event). l ≡ []) [] [] refl (All-nil (λ (l : List Event). l ≡ []))) rest
first_then (event ∷ list) lists events rest = (0, list, (refl, first_then list lists events rest))

joined_interleave : (lists : List (List Event)) → Interleaving lists (joined lists)
joined_interleave [] = All-nil (λ (l : List Event). l ≡ [])
joined_interleave (list ∷ lists) = first_then list lists (joined lists) (joined_interleave lists)

-- what is answered to an event behind a history
abbrev next_reply : Kept → List Entry → Event → Reply
next_reply start history event = reply_of start.election (start.events ++ done_events history) event

-- a legal history goes on with events
record GoesOn (start : Kept) (history : List Entry) (events : List Event) : Type 0 where
  now : List Entry
  legal : IsLegal start now
  same : events_in now ≡ events_in history ++ events

events_more : (history : List Entry) (call : Entry) → events_in (history ++ call ∷ []) ≡ events_in history ++ call.event ∷ []
events_more [] call = refl
events_more (first ∷ history) call = ap (λ (l : List Event). first.event ∷ l) (events_more history call)

goes_on : (start : Kept) (history : List Entry) (events : List Event) → IsLegal start history → GoesOn start history events
goes_on start history [] legal = record { now = history; legal = legal; same = sym (append-nil (events_in history)) }
goes_on start history (event ∷ events) legal =
    let reply : Reply = next_reply start history event in
    let more = goes_on start (history ++ entry event reply ∷ []) events (legal_more start history event reply legal refl) in
    record {
      now = more.now;
      legal = more.legal;
      same = more.same ∙ (ap (λ (l : List Event). l ++ events) (events_more history (entry event reply)) ∙ append_assoc (events_in history) (event ∷ []) events);
    }

none_legal : (start : Kept) → IsLegal start []
none_legal start = record { replies = λ place call at. absurd (cc at) }

pub have_history : (start : Kept) (lists : List (List Event)) → HasHistory start lists
have_history start lists =
    let all = goes_on start [] (joined lists) (none_legal start) in
    record {
      history = all.now;
      legal = all.legal;
      interleaved = subst (λ (events : List Event). Interleaving lists events) (sym all.same) (joined_interleave lists);
    }
