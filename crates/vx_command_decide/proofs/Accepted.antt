-- Lines whose events are accepted or refused.
use Rattle.std.proofs.Common.{◌≡◌, ◌⊎◌, inl, inr, ℕ, ◌+◌, true, false, List, [], ◌∷◌, ◌++◌, Option, Some, None, MatchOption, Bor, Result, Ok, Err, refl, sym, subst, ◌∙◌}
use Rattle.std.proofs.lemmas.Bool.{cond-true, cond-false}
use Rattle.vx_election_model.specs.declared.election.Election.{Election}
use Rattle.vx_events.specs.declared.event.Event.{Event}
use Rattle.vx_refusals.specs.declared.decision.DecisionFault.TheVariants.{Refused}
use Rattle.vx_center.specs.Replies.{is_done, next_of}
use Rattle.vx_records.specs.Records.{record_of}
use Rattle.vx_command.specs.declared.halt.Halt.{Halt}
use Rattle.vx_command.specs.declared.halt.Halt.TheVariants.{Decision, ReadFault, WriteFault, KeeperFault, NoMemory}
use Rattle.vx_command.specs.Acts.{Act, Answer, Append, Write, Outcome, after, goes_on, work, writing}
use Rattle.vx_command.specs.Devices.{writes_nothing}
use Rattle.vx_command.specs.Done.{Taken, Held, BreaksAt, BreaksOff, IsWhole, IsDone, IsWritten}
use Rattle.vx_command.specs.Laws.{ActLaws}
use Rattle.vx_journal.specs.declared.journal.Journal.{Journal}
use Rattle.vx_journal.specs.Keeping.{keep_acts, reply_in}
use Rattle.vx_journal.specs.Steps.{IsRecorded}
use Rattle.vx_script.specs.Script.{event_in, lines_of}
use Rattle.vx_command_decide.specs.Lines.{Accepts, Decides, event_outcome}
use Rattle.vx_command_decide.specs.Outcome.{accepted, done_line, line_acts, said}

-- a break-off is no answer of a command that has written nothing
broken_late : (cause : Halt) (left : List Act) (text : List ℕ) (records : List (List ℕ)) → BreaksAt cause left text records → writes_nothing {A = Unit {0}} false (Err cause) ≡ false
broken_late ReadFault left text records broke = refl
broken_late WriteFault left text records broke = refl
broken_late KeeperFault left text records broke = refl
broken_late NoMemory left text records broke = refl
broken_late cause left text records broke = absurd broke

done_late : (cause : Halt) (left : List Act) (text : List ℕ) (records : List (List ℕ)) → IsWhole (Ok tt) (Err cause) left text records ⊎ BreaksOff (Err cause) left text records → writes_nothing {A = Unit {0}} false (Err cause) ≡ false
done_late cause left text records (inl whole) = let never = whole.same_answer in cc
done_late cause left text records (inr broke) = broken_late cause left text records broke

pub recorded_late : (acts : List Act) (held held_now : Held) (cause : Halt) → IsRecorded acts held held_now (Err cause) → writes_nothing {A = Unit {0}} false (Err cause) ≡ false
recorded_late acts held held_now cause recorded = let it = recorded None in done_late cause it.left it.text it.records it.ends

module _ (laws : ActLaws) (journal : Journal) (number : ℕ) (event : Event) (taken : Taken) (held held_now : Held) where
  abbrev election : Election
  election = journal.center.election

  abbrev kept : List Event
  kept = journal.center.events

  -- the first act of a line, and what comes behind it
  abbrev behind : (Event → Outcome) → Outcome
  behind next = after (Write (done_line number) ∷ []) (next event)

  module _ (done : is_done (reply_in journal event) ≡ true) where
    given : accepted election kept number event ≡ Ok event
    given = cond-true (is_done (reply_in journal event)) (Ok event) (Err (Decision number (Refused (reply_in journal event)))) done

    kept_record : (answer : Answer) → IsRecorded (keep_acts journal event) held held_now answer → IsDone (work (Append (record_of event) ∷ [])) taken taken held held_now answer
    kept_record answer recorded =
        let Recorded : List Act → Type 0 = λ acts. IsRecorded acts held held_now answer in
        subst Recorded (cond-true (is_done (reply_in journal event)) (Append (record_of event) ∷ []) [] done) recorded taken

    at_event : (next : Event → Outcome) (taken_now : Taken) (held_then : Held) (answer : Answer) → IsDone (after (line_acts number event) (next event)) taken taken_now held held_then answer → IsDone (event_outcome election kept number event next) taken taken_now held held_then answer
    at_event next taken_now held_then answer so =
        let So : Result Event Halt → Type 0 = λ result. IsDone (goes_on result (λ some. after (line_acts number some) (next some))) taken taken_now held held_then answer in
        subst So (sym given) so

    -- the record wasn't appended
    pub not_kept : (cause : Halt) → IsRecorded (keep_acts journal event) held held_now (Err cause) → (next : Event → Outcome) → IsDone (event_outcome election kept number event next) taken taken held held_now (Err cause)
    not_kept cause recorded next =
        at_event next taken held_now (Err cause)
        (laws.broken (Append (record_of event) ∷ []) (behind next) taken taken held held_now cause (kept_record (Err cause) recorded))

    -- it was, and then the line is written
    pub then_written : (recorded : IsRecorded (keep_acts journal event) held held_now (Ok tt)) (kept_now : List Event) → kept_now ≡ next_of election kept event → (taken_now : Taken) (answer : Answer) → IsWritten (writing (done_line number)) taken taken_now answer → Accepts election kept kept_now number event taken taken_now held held_now answer
    then_written recorded kept_now next_is taken_now (Ok written) wrote = record {
      kept_is = next_is ∙ cond-true (is_done (reply_in journal event)) (kept ++ event ∷ []) kept done;
      comes = λ next taken_then held_then answer so.
          at_event next taken_then held_then answer
          (laws.done (Append (record_of event) ∷ []) (behind next) taken taken held held_now (kept_record (Ok tt) recorded) taken_then held_then answer
          (laws.done (Write (done_line number) ∷ []) (next event) taken taken_now held_now held_now (wrote held_now) taken_then held_then answer so));
    }
    then_written recorded kept_now next_is taken_now (Err cause) wrote = λ next.
        at_event next taken_now held_now (Err cause)
        (laws.done (Append (record_of event) ∷ []) (behind next) taken taken held held_now (kept_record (Ok tt) recorded) taken_now held_now (Err cause)
        (laws.broken (Write (done_line number) ∷ []) (next event) taken taken_now held_now held_now cause (wrote held_now)))

  -- the event is refused
  pub is_refused : is_done (reply_in journal event) ≡ false → IsRecorded (keep_acts journal event) held held_now (Ok tt) → (next : Event → Outcome) → IsDone (event_outcome election kept number event next) taken taken held held_now (Err (Decision number (Refused (reply_in journal event))))
  is_refused refused recorded next =
      let cause : Halt = Decision number (Refused (reply_in journal event)) in
      let Recorded : List Act → Type 0 = λ acts. IsRecorded acts held held_now (Ok tt) in
      let nothing : IsDone (work []) taken taken held held_now (Ok tt) = subst Recorded (cond-false (is_done (reply_in journal event)) (Append (record_of event) ∷ []) [] refused) recorded taken in
      let So : Result Event Halt → Type 0 = λ result. IsDone (goes_on result (λ some. after (line_acts number some) (next some))) taken taken held held_now (Err cause) in
      subst So (sym (cond-false (is_done (reply_in journal event)) (Ok event) (Err cause) refused))
      (laws.done [] (record { acts = []; ends = Err cause }) taken taken held held_now nothing taken held_now (Err cause) (laws.ended (Err cause) taken held_now))

module _ (election : Election) (kept kept_now : List Event) (number : ℕ) (line : List ℕ) (taken taken_now : Taken) (held held_now : Held) where
  -- a line whose event is accepted
  module _ (found : Option Event) (event : Event) (is : found ≡ Some event) where
    at_line : (next : Event → Outcome) (taken_then : Taken) (held_then : Held) (answer : Answer) → IsDone (event_outcome election kept number event next) taken taken_then held held_then answer → IsDone (goes_on (said election kept number found) (λ some. after (line_acts number some) (next some))) taken taken_then held held_then answer
    at_line next taken_then held_then answer so =
        let So : Option Event → Type 0 = λ some. IsDone (goes_on (said election kept number some) (λ other. after (line_acts number other) (next other))) taken taken_then held held_then answer in
        subst So (sym is) so

  pub decides : (event : Event) → event_in election line ≡ Some event → (answer : Answer) → Accepts election kept kept_now number event taken taken_now held held_now answer → Decides election kept kept_now number line taken taken_now held held_now answer
  decides event is (Ok done) accepts = record {
    event = event;
    kept_is = accepts.kept_is;
    comes = λ next taken_then held_then answer so. at_line (event_in election line) event is next taken_then held_then answer (accepts.comes next taken_then held_then answer so);
  }
  decides event is (Err cause) accepts = λ next. at_line (event_in election line) event is next taken_now held_now (Err cause) (accepts next)

-- the first line of a text, and some others
pub front_line : (text line : List ℕ) (behind : Option (Bor (List ℕ))) → MatchOption behind (lines_of text ≡ line ∷ []) (λ rest. lines_of text ≡ line ∷ lines_of rest.now) → (lines : List (List ℕ)) × (lines_of text ≡ line ∷ lines)
front_line text line None is = ([], is)
front_line text line (Some rest) is = (lines_of rest.now, is)
