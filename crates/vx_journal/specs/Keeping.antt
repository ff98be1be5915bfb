-- A journal as a command reads it, and what the command appends.
use Rattle.std.specs.Prelude.{ℕ, Bool, true, false, if◌then◌else◌, List, [], ◌∷◌, Result, Ok, Err}
use Rattle.vx_election_model.specs.declared.election.Election.{Election}
use Rattle.vx_events.specs.declared.event.Event.{Event}
use Rattle.vx_refusals.specs.declared.journal.JournalStop.{JournalStop}
use Rattle.vx_refusals.specs.declared.reply.Reply.{Reply}
use Rattle.vx_center.specs.Kept.{Kept}
use Rattle.vx_center.specs.Replies.{reply_of, next_of, is_done}
use Rattle.vx_records.specs.Records.{header_of, record_of}
use Rattle.vx_command.specs.declared.halt.Halt.{Halt}
use Rattle.vx_command.specs.declared.halt.Halt.TheVariants as halt
use Rattle.vx_command.specs.Acts.{Act, Append}
use Rattle.vx_journal.specs.declared.journal.Journal.{Journal}
use Rattle.vx_journal.specs.Replay.{replay_of}

-- no record is there
abbrev pub has_none : List (List ℕ) → Bool
has_none [] = true
has_none (body ∷ bodies) = false

-- the journal of events that were read, or why a command that needs it halts
abbrev pub journal_read : Election → Bool → Result (List Event) (ℕ × JournalStop) → Result Journal Halt
journal_read election none (Ok events) = Ok (record { center = record { election = election; events = events }; is_new = none })
journal_read election none (Err stopped) = Err (halt.Journal stopped.0 stopped.1)

-- the journal that records are
abbrev pub journal_in : Election → List (List ℕ) → Result Journal Halt
journal_in election records = journal_read election (has_none records) (replay_of election records)

-- the header is appended where no record was there
abbrev pub begin_acts : Journal → List Act
begin_acts journal = if journal.is_new then Append (header_of journal.center.election) ∷ [] else []

-- what the counting machine of a journal answers to an event
abbrev pub reply_in : Journal → Event → Reply
reply_in journal event = reply_of journal.center.election journal.center.events event

-- an event's record is appended where it is answered with Done
abbrev pub keep_acts : Journal → Event → List Act
keep_acts journal event = if is_done (reply_in journal event) then Append (record_of event) ∷ [] else []

-- the journal behind an event
abbrev pub journal_with : Journal → Event → Journal
journal_with journal event =
    record journal { center = record journal.center { events = next_of journal.center.election journal.center.events event } }
