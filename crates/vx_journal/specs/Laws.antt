-- Laws of journals: what they grow by, and that whatever stands of a command's acts leaves one.
use Rattle.std.specs.Prelude.{◌≡◌, ℕ, Bool, List, [], ◌∷◌, ◌++◌, map, Option, None, Some, Result, Ok, Err, IsOk, IsSomeAnd}
use Rattle.std.specs.List.{flat_map}
use Rattle.vx_io.specs.Outside.{Files, Took}
use Rattle.vx_election_model.specs.declared.election.Election.{Election}
use Rattle.vx_events.specs.declared.event.Event.{Event}
use Rattle.vx_events.specs.Fits.{Fits}
use Rattle.vx_refusals.specs.declared.reply.Reply.TheVariants.{Done}
use Rattle.vx_center.specs.Histories.{IsHistory}
use Rattle.vx_center.specs.Replies.{reply_of}
use Rattle.vx_records.specs.Reading.{event_in}
use Rattle.vx_records.specs.Records.{header_of, record_of}
use Rattle.vx_records.specs.Held.{IsHeld}
use Rattle.vx_command.specs.declared.halt.Halt.{Halt}
use Rattle.vx_command.specs.Acts.{Act, Take, ReadJournal, Write, Append, Answer, Outcome, records_of, writing}
use Rattle.vx_command.specs.Done.{Taken, Held, IsDone, ComesTo}
use Rattle.vx_command.specs.Elections.{election_in, once_election}
use Rattle.vx_journal.specs.declared.journal.Journal.{Journal}
use Rattle.vx_journal.specs.Replay.{replay_of}
use Rattle.vx_journal.specs.Keeping.{journal_in, begin_acts}
use Rattle.vx_journal.specs.Steps.{GivesReading, once_read}

-- records that are a journal of an election: no command that reads them for it is stopped by one
abbrev pub IsJournal : Election → List (List ℕ) → Type 0
IsJournal election records = IsOk (replay_of election records)

-- a journal that was begun, with its events: the header is there
pub record IsBegun (election : Election) (records : List (List ℕ)) (events : List Event) : Type 0 where
  pub first : List ℕ
  pub further : List (List ℕ)
  pub are : records ≡ first ∷ further
  pub replays : replay_of election records ≡ Ok events

-- a journal that was begun is one
abbrev pub BegunAreJournals : Type 0
BegunAreJournals =
    (election : Election) (records : List (List ℕ)) (events : List Event)
    → IsBegun election records events → IsJournal election records

-- the header begins a journal where no record is there; one with records was begun before
abbrev pub HeadersBeginJournals : Type 0
HeadersBeginJournals =
    (election : Election) (records : List (List ℕ)) (journal : Journal)
    → journal_in election records ≡ Ok journal
    → IsBegun election (records ++ flat_map records_of (begin_acts journal)) journal.center.events

-- a journal grows by the record of an event that fits, has a record, and is answered with Done
abbrev pub JournalsGrow : Type 0
JournalsGrow =
    (election : Election) (records : List (List ℕ)) (events : List Event) (event : Event)
    → IsBegun election records events → Fits election event → IsHeld event → reply_of election events event ≡ Done
    → IsBegun election (records ++ record_of event ∷ []) (events ++ event ∷ [])

-- a step that reads the journal, and then the rest of a command: where it was read, the command has come to what it
-- does with it; where it wasn't, the command halts so
pub record ReadLaws : Type 0 where
  pub read : (election : Election) (records : List (List ℕ)) (journal : Journal) (rest : Journal → Outcome) (a : Taken) (h : Held) → journal_in election records ≡ Ok journal → ComesTo (once_read election records rest) (rest journal) a a h h
  pub not_read : (election : Election) (records : List (List ℕ)) (cause : Halt) (rest : Journal → Outcome) (a : Taken) (h : Held) → GivesReading (Err cause) (journal_in election records) → IsDone (once_read election records rest) a a h h (Err cause)

-- the records are a journal, and so they are behind each record that acts append
abbrev pub StaysJournal : Election → List (List ℕ) → List Act → Type 0
StaysJournal election records [] = IsJournal election records
StaysJournal election records (Take word ∷ acts) = StaysJournal election records acts
StaysJournal election records (ReadJournal ∷ acts) = StaysJournal election records acts
StaysJournal election records (Write text ∷ acts) = StaysJournal election records acts
StaysJournal election records (Append body ∷ acts) =
    IsJournal election records × StaysJournal election (records ++ body ∷ []) acts

-- a keeper that holds a journal
abbrev pub HoldsJournal : Election → Held → Type 0
HoldsJournal election held = IsSomeAnd held (IsJournal election)

-- whatever stands of a command's acts, behind each of which the records are a journal, the keeper holds one
abbrev pub JournalsStay : Type 0
JournalsStay =
    (election : Election) (records : List (List ℕ)) (outcome : Outcome) (taken taken_now : Taken) (held_now : Held)
    (answer : Answer) → StaysJournal election records outcome.acts
    → IsDone outcome taken taken_now (Some records) held_now answer → HoldsJournal election held_now

-- the first records of a journal are one, of the first of its events
pub record IsFrontOf (election : Election) (records : List (List ℕ)) (events : List Event) : Type 0 where
  pub events_then : List Event
  pub replays : replay_of election records ≡ Ok events_then
  pub more : List Event
  pub are : events ≡ events_then ++ more

abbrev pub FrontsAreJournals : Type 0
FrontsAreJournals =
    (election : Election) (records more : List (List ℕ)) (events : List Event)
    → replay_of election (records ++ more) ≡ Ok events → IsFrontOf election records events

-- a record behind the header is one event, which stands behind those of the records before it
pub record IsKeptAs (election : Election) (before : List (List ℕ)) (event : Event) (events : List Event) : Type 0 where
  pub events_then : List Event
  pub replays : replay_of election before ≡ Ok events_then
  pub more : List Event
  pub are : events ≡ events_then ++ event ∷ more

abbrev pub RecordsAreEvents : Type 0
RecordsAreEvents =
    (election : Election) (header : List ℕ) (before : List (List ℕ)) (body : List ℕ) (behind : List (List ℕ))
    (event : Event) (events : List Event)
    → event_in body ≡ Ok event → replay_of election ((header ∷ before) ++ body ∷ behind) ≡ Ok events
    → IsKeptAs election (header ∷ before) event events

-- what a journal keeps is a history of the counting machine
abbrev pub JournalsAreHistories : Type 0
JournalsAreHistories =
    (election : Election) (records : List (List ℕ)) (events : List Event)
    → replay_of election records ≡ Ok events → IsHistory election events

-- the records of a journal that keeps some events: the header, and behind it the record of each of them, in their order;
-- or none, where no event is kept
abbrev pub AreRecordsOf : Election → List Event → List (List ℕ) → Type 0
AreRecordsOf election events [] = events ≡ []
AreRecordsOf election events (header ∷ bodies) = (header ≡ header_of election) × (bodies ≡ map record_of events)

-- a journal has no other record
abbrev pub JournalsAreTheirEvents : Type 0
JournalsAreTheirEvents =
    (election : Election) (records : List (List ℕ)) (events : List Event)
    → replay_of election records ≡ Ok events → AreRecordsOf election events records

-- the election under a name was read, the records are a journal of it, and all that was written is a text of exactly the
-- events that the journal keeps, which are a history of the counting machine
pub record WroteOfJournal (name : List ℕ) (files : Files) (records : List (List ℕ)) (text : Election → List Event → List ℕ)
    (taken taken_now : Taken) : Type 0 where
  pub election : Election
  pub is_read : election_in (files name) ≡ Ok election
  pub events : List Event
  pub are_kept : replay_of election records ≡ Ok events
  pub history : IsHistory election events
  pub wrote : Took taken taken_now (text election events)

-- so it is where a command ended well that takes its election, reads its journal, and writes a text of what it keeps
abbrev pub TextsAreOfJournals : Type 0
TextsAreOfJournals =
    (name : List ℕ) (files : Files) (records : List (List ℕ)) (text : Election → List Event → List ℕ)
    (taken taken_now : Taken) (held held_now : Held) (answer : Answer)
    → IsDone (once_election (files name) (λ given. once_read given records (λ journal. writing (text given journal.center.events))))
    taken taken_now held held_now answer
    → answer ≡ Ok tt → WroteOfJournal name files records text taken taken_now
