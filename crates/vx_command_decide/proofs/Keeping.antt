-- A journal stays one while the lines of a script are kept.
use Rattle.std.proofs.Common.{◌≡◌, ℕ, ◌+◌, Bool, true, false, cond, List, [], ◌∷◌, ◌++◌, Option, Some, None, Result, Ok, Err, refl, sym, ap, subst, ◌∙◌}
use Rattle.std.specs.List.{flat_map}
use Rattle.std.proofs.lemmas.List.{append-nil}
use Rattle.vx_base.proofs.Results.{is-ok_from, ok-is}
use Rattle.vx_io.specs.Outside.{Files}
use Rattle.vx_election_model.specs.declared.election.Election.{Election}
use Rattle.vx_events.specs.declared.event.Event.{Event}
use Rattle.vx_refusals.specs.declared.decision.DecisionFault.TheVariants.{Refused}
use Rattle.vx_refusals.specs.declared.reply.Reply.TheVariants.{Done}
use Rattle.vx_center.specs.Laws.{RepliesAreDoneOrRefuse}
use Rattle.vx_center.specs.Replies.{is_done, reply_of}
use Rattle.vx_records.specs.Records.{header_of, record_of}
use Rattle.vx_command.specs.declared.halt.Halt.{Halt}
use Rattle.vx_command.specs.declared.halt.Halt.TheVariants.{Decision}
use Rattle.vx_command.specs.Acts.{Act, Append, Outcome, after, goes_on, input_of, records_of}
use Rattle.vx_command.specs.Elections.{election_in}
use Rattle.vx_journal.specs.declared.journal.Journal.{Journal}
use Rattle.vx_journal.specs.Keeping.{begin_acts, has_none, journal_in, journal_read}
use Rattle.vx_journal.specs.Laws.{BegunAreJournals, HeadersBeginJournals, IsBegun, IsJournal, JournalsGrow, StaysJournal}
use Rattle.vx_journal.specs.Replay.{replay_of}
use Rattle.vx_journal.specs.Steps.{once_read}
use Rattle.vx_command_decide.specs.Outcome.{begun_outcome, decide_outcome, line_acts, lines_outcome, said, script_outcome}
use Rattle.vx_script.specs.Script.{event_in, lines_of, script_limit}
use Rattle.vx_script.specs.Laws.{SaidEventsAreHeld}

module _ (replies : RepliesAreDoneOrRefuse) where
  accepted_is : (election : Election) (kept : List Event) (number : ℕ) (found event : Event) (done : Bool) → is_done (reply_of election kept found) ≡ done → cond done (Ok found) (Err (Decision number (Refused (reply_of election kept found)))) ≡ Ok event → (found ≡ event) × (reply_of election kept event ≡ Done)
  accepted_is election kept number found event true done is =
      let same : found ≡ event = cc in
      (same, ap (reply_of election kept) (sym same) ∙ replies.done (reply_of election kept found) done)
  accepted_is election kept number found event false done is = absurd cc

  said_is : (election : Election) (kept : List Event) (number : ℕ) (found : Option Event) (event : Event) → said election kept number found ≡ Ok event → (found ≡ Some event) × (reply_of election kept event ≡ Done)
  said_is election kept number None event is = absurd cc
  said_is election kept number (Some found) event is =
      let all = accepted_is election kept number found event (is_done (reply_of election kept found)) refl is in
      (ap Some all.0, all.1)

module _ (replies : RepliesAreDoneOrRefuse) (begun_is : BegunAreJournals) (held : SaidEventsAreHeld) (grow : JournalsGrow) (election : Election) where
  goes_so : (given : Result Event Halt) (number : ℕ) (next : Event → Outcome) (records : List (List ℕ)) → IsJournal election records → ((event : Event) → given ≡ Ok event → StaysJournal election (records ++ record_of event ∷ []) (next event).acts) → StaysJournal election records (goes_on given (λ event. after (line_acts number event) (next event))).acts
  goes_so (Err cause) number next records now further = now
  goes_so (Ok event) number next records now further = (now, further event refl)

  lines_stay : (lines : List (List ℕ)) (number : ℕ) (kept : List Event) (records : List (List ℕ)) → IsBegun election records kept → StaysJournal election records (lines_outcome election kept number lines).acts
  lines_stay [] number kept records begun = begun_is election records kept begun
  lines_stay ([] ∷ lines) number kept records begun = lines_stay lines (number + 1) kept records begun
  lines_stay ((b ∷ line) ∷ lines) number kept records begun =
      goes_so (said election kept number (event_in election (b ∷ line))) number (λ event. lines_outcome election (kept ++ event ∷ []) (number + 1) lines) records (begun_is election records kept begun)
      (λ event is.
      let found = said_is replies election kept number (event_in election (b ∷ line)) event is in
      let has = held election (b ∷ line) event found.0 in
      lines_stay lines (number + 1) (kept ++ event ∷ []) (records ++ record_of event ∷ [])
      (grow election records kept event begun has.1 has.0 found.1))

  script_stays : (file : Option (List ℕ)) (given : Result (List ℕ) Halt) (kept : List Event) (records : List (List ℕ)) → IsBegun election records kept → StaysJournal election records (goes_on given (λ script. lines_outcome election kept 1 (lines_of script))).acts
  script_stays file (Err cause) kept records begun = begun_is election records kept begun
  script_stays file (Ok script) kept records begun = lines_stay (lines_of script) 1 kept records begun

  begin_stays : (new : Bool) (events : List Event) (more : List Act) (records : List (List ℕ)) → IsJournal election records → (IsBegun election (records ++ flat_map records_of (cond new (Append (header_of election) ∷ []) [])) events → StaysJournal election (records ++ flat_map records_of (cond new (Append (header_of election) ∷ []) [])) more) → IsBegun election (records ++ flat_map records_of (cond new (Append (header_of election) ∷ []) [])) events → StaysJournal election records (cond new (Append (header_of election) ∷ []) [] ++ more)
  begin_stays true events more records now further begun = (now, further begun)
  begin_stays false events more records now further begun =
      let Stays : List (List ℕ) → Type 0 = λ some. StaysJournal election some more in
      subst Stays (append-nil records) (further begun)

  -- a journal that was read is this election's
  read_stays : (heads : HeadersBeginJournals) (file : Option (List ℕ)) (records : List (List ℕ)) (events : List Event) → replay_of election records ≡ Ok events → StaysJournal election records (once_read election records (begun_outcome election file)).acts
  read_stays heads file records events is =
      let journal : Journal = record { center = record { election = election; events = events }; is_new = has_none records } in
      let read : journal_in election records ≡ Ok journal = ap (journal_read election (has_none records)) is in
      let Stays : Result Journal Halt → Type 0 = λ given. StaysJournal election records (goes_on given (begun_outcome election file)).acts in
      subst Stays (sym read)
      (begin_stays (has_none records) events (script_outcome election events file).acts records (is-ok_from (replay_of election records) events is)
      (λ begun. script_stays file (input_of 2 script_limit file) events (records ++ flat_map records_of (begin_acts journal)) begun)
      (heads election records journal read))

-- `decide` keeps a journal
pub stays : RepliesAreDoneOrRefuse → BegunAreJournals → SaidEventsAreHeld → JournalsGrow → HeadersBeginJournals → (name script : List ℕ) (files : Files) (records : List (List ℕ)) (election : Election) → election_in (files name) ≡ Ok election → IsJournal election records → StaysJournal election records (decide_outcome name script files records).acts
stays replies begun_is held grow heads name script files records election is journal =
    let read = ok-is (replay_of election records) journal in
    let Stays : Result Election Halt → Type 0 = λ given. StaysJournal election records (goes_on given (λ some. once_read some records (begun_outcome some (files script)))).acts in
    subst Stays (sym is) (read_stays replies begun_is held grow election heads (files script) records read.0 read.1)
