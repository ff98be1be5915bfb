-- The acts of a center whose items have ended, one after another.
use Rattle.std.proofs.Common.{◌≡◌, ◌⊎◌, inl, inr, ℕ, ◌+◌, ◌<◌, ◌≤◌, false, List, [], ◌∷◌, length, drop, get_or, Ok, Err, refl, sym, ap, subst, ◌∙◌}
use Rattle.std.proofs.lemmas.List.{drop_more, drop_all, map-append}
use Rattle.vx_events.specs.declared.event.Event.{Event}
use Rattle.vx_records.specs.Records.{record_of}
use Rattle.vx_shared.specs.declared.history.Entry.{Entry}
use Rattle.vx_shared.specs.Legal.{done_events, done_of}
use Rattle.vx_command.specs.declared.halt.Halt.{Halt}
use Rattle.vx_command.specs.declared.halt.Halt.TheVariants.{ReadFault, WriteFault, KeeperFault, NoMemory}
use Rattle.vx_command.specs.Acts.{Act, Answer, Append, Write, Outcome, after, work, writing}
use Rattle.vx_command.specs.Devices.{is_read_fault}
use Rattle.vx_command.specs.Done.{Taken, Held, BreaksAt, BreaksOff, IsWhole, IsDone, IsWritten, ComesTo, WritesTo}
use Rattle.vx_command.specs.Laws.{ActLaws}
use Rattle.vx_journal.specs.Steps.{IsRecorded}
use Rattle.vx_command_center.specs.Outcome.{append_acts, event_line, history_acts}
use Rattle.vx_command_center.specs.Runs.{is_refusal}

-- the call in a place, and those behind it
here : (history : List Entry) (i : ℕ) (call : Entry) → i < length history → call ≡ get_or history i call → drop i history ≡ call ∷ drop (i + 1) history
here history i call inside is = drop_more history i call inside ∙ ap (λ (c : Entry). c ∷ drop (i + 1) history) (sym is)

module _ (laws : ActLaws) (history : List Entry) (i : ℕ) where
  abbrev appended_from : ℕ → Outcome
  appended_from j = work (append_acts (done_events (drop j history)))

  appended_here : (call : Entry) → i < length history → call ≡ get_or history i call → appended_from i ≡ after (append_acts (done_of call)) (appended_from (i + 1))
  appended_here call inside is =
      ap (λ (calls : List Entry). work (append_acts (done_events calls))) (here history i call inside is)
      ∙ ap work (map-append (λ (event : Event). Append (record_of event)) (done_of call) (done_events (drop (i + 1) history)))

  -- the records of the calls before one are appended
  abbrev Appended : ℕ → Held → Held → Type 0
  Appended j h k = (taken : Taken) → ComesTo (work (append_acts (done_events history))) (appended_from j) taken taken h k

  pub append_more : (call : Entry) (h k m : Held) → i < length history → call ≡ get_or history i call → Appended i h k → IsRecorded (append_acts (done_of call)) k m (Ok tt) → Appended (i + 1) h m
  append_more call h k m inside is before recorded taken taken_then held_then answer done =
      let Done : Outcome → Type 0 = λ outcome. IsDone outcome taken taken_then k held_then answer in
      before taken taken_then held_then answer
      (subst Done (sym (appended_here call inside is))
      (laws.done (append_acts (done_of call)) (appended_from (i + 1)) taken taken k m (recorded taken) taken_then held_then answer done))

  pub append_breaks : (call : Entry) (h k m : Held) (cause : Halt) → i < length history → call ≡ get_or history i call → Appended i h k → IsRecorded (append_acts (done_of call)) k m (Err cause) → IsRecorded (append_acts (done_events history)) h m (Err cause)
  append_breaks call h k m cause inside is before recorded taken =
      let Done : Outcome → Type 0 = λ outcome. IsDone outcome taken taken k m (Err cause) in
      before taken taken m (Err cause)
      (subst Done (sym (appended_here call inside is))
      (laws.broken (append_acts (done_of call)) (appended_from (i + 1)) taken taken k m cause (recorded taken)))

  pub all_appended : (h k : Held) → length history ≤ i → Appended i h k → IsRecorded (append_acts (done_events history)) h k (Ok tt)
  all_appended h k past before taken =
      let Done : List Entry → Type 0 = λ calls. IsDone (work (append_acts (done_events calls))) taken taken k k (Ok tt) in
      before taken taken k (Ok tt) (subst Done (sym (drop_all i history past)) (laws.ended (Ok tt) taken k))

  -- the lines of the calls before one are written; the place is the number of these calls
  module _ (place : ℕ) (at : place ≡ i) where
    written_here : (call : Entry) → i < length history → call ≡ get_or history i call → work (history_acts place (drop i history)) ≡ after (Write (event_line place call) ∷ []) (work (history_acts (place + 1) (drop (i + 1) history)))
    written_here call inside is = ap (λ (calls : List Entry). work (history_acts place calls)) (here history i call inside is)

    pub line_more : (call : Entry) (a b c : Taken) → i < length history → call ≡ get_or history i call → WritesTo (work (history_acts 0 history)) (work (history_acts place (drop i history))) a b → IsWritten (writing (event_line place call)) b c (Ok tt) → WritesTo (work (history_acts 0 history)) (work (history_acts (place + 1) (drop (i + 1) history))) a c
    line_more call a b c inside is before written held taken_then held_then answer done =
        let Done : Outcome → Type 0 = λ outcome. IsDone outcome b taken_then held held_then answer in
        before held taken_then held_then answer
        (subst Done (sym (written_here call inside is))
        (laws.done (Write (event_line place call) ∷ []) (work (history_acts (place + 1) (drop (i + 1) history))) b c held held (written held) taken_then held_then answer done))

    pub line_breaks : (call : Entry) (a b c : Taken) (cause : Halt) → i < length history → call ≡ get_or history i call → WritesTo (work (history_acts 0 history)) (work (history_acts place (drop i history))) a b → IsWritten (writing (event_line place call)) b c (Err cause) → IsWritten (work (history_acts 0 history)) a c (Err cause)
    line_breaks call a b c cause inside is before written held =
        let Done : Outcome → Type 0 = λ outcome. IsDone outcome b c held held (Err cause) in
        before held c held (Err cause)
        (subst Done (sym (written_here call inside is))
        (laws.broken (Write (event_line place call) ∷ []) (work (history_acts (place + 1) (drop (i + 1) history))) b c held held cause (written held)))

  pub all_lines : (place : ℕ) (a b : Taken) → length history ≤ i → WritesTo (work (history_acts 0 history)) (work (history_acts place (drop i history))) a b → IsWritten (work (history_acts 0 history)) a b (Ok tt)
  all_lines place a b past before held =
      let Done : List Entry → Type 0 = λ calls. IsDone (work (history_acts place calls)) b b held held (Ok tt) in
      before held b held (Ok tt) (subst Done (sym (drop_all i history past)) (laws.ended (Ok tt) b held))

-- acts that broke off, not at an input, weren't refused
breaks_late : (cause : Halt) (left : List Act) (text : List ℕ) (records : List (List ℕ)) → is_read_fault {A = Unit {0}} (Err cause) ≡ false → BreaksAt cause left text records → is_refusal {A = Unit {0}} (Err cause) ≡ false
breaks_late ReadFault left text records other broke = absurd cc
breaks_late WriteFault left text records other broke = refl
breaks_late KeeperFault left text records other broke = refl
breaks_late NoMemory left text records other broke = refl
breaks_late cause left text records other broke = absurd broke

pub late_of : (acts : List Act) (a b : Taken) (h k : Held) (answer : Answer) → is_read_fault answer ≡ false → IsDone (work acts) a b h k answer → is_refusal answer ≡ false
late_of acts a b h k (Ok done) other it = refl
late_of acts a b h k (Err cause) other it = by it.ends
  where
    by : IsWhole (Ok tt) (Err cause) it.left it.text it.records ⊎ BreaksOff (Err cause) it.left it.text it.records → is_refusal {A = Unit {0}} (Err cause) ≡ false
    by (inl whole) = let never = whole.same_answer in absurd cc
    by (inr broke) = breaks_late cause it.left it.text it.records other broke
