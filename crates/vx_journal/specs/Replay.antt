-- The events that a journal's records keep: each record is read behind those before it, and the first that can't be
-- stops the reading.
use Rattle.std.specs.Prelude.{ℕ, ◌+◌, if◌then◌else◌, bytes_eq, List, [], ◌∷◌, ◌++◌, Result, Ok, Err}
use Rattle.vx_base.specs.Results.{◌>>=◌}
use Rattle.vx_election_model.specs.declared.election.Election.{Election}
use Rattle.vx_events.specs.declared.event.Event.{Event}
use Rattle.vx_events.specs.Fits.{fits}
use Rattle.vx_refusals.specs.declared.journal.JournalStop.{JournalStop}
use Rattle.vx_refusals.specs.declared.journal.JournalStop.TheVariants.{Bad, Refused, OtherElection, Unfit}
use Rattle.vx_center.specs.Replies.{reply_of, is_done}
use Rattle.vx_records.specs.Records.{header_of}
use Rattle.vx_records.specs.Reading.{digest_in, event_in}

-- bytes that are no record stop the reading with how many of them begin one
abbrev pub unless_bad : {A : Type 0} → Result A ℕ → Result A JournalStop
unless_bad (Ok given) = Ok given
unless_bad (Err at) = Err (Bad at)

-- the first record is the election's header, behind which no event is kept yet; another header is another election's
abbrev pub begun_with : Election → List ℕ → Result (List Event) JournalStop
begun_with election body =
    if bytes_eq body (header_of election) then Ok [] else (unless_bad (digest_in body) >>= (λ digest. Err OtherElection))

-- an event is kept behind others where it fits the election and is answered with Done
abbrev pub kept_with : Election → List Event → Event → Result (List Event) JournalStop
kept_with election kept event =
    if fits election event
    then (if is_done (reply_of election kept event)
    then Ok (kept ++ event ∷ [])
    else Err (Refused (reply_of election kept event)))
    else Err Unfit

-- each further record is an event's
abbrev pub read_with : Election → List Event → List ℕ → Result (List Event) JournalStop
read_with election kept body = unless_bad (event_in body) >>= kept_with election kept

-- what stops the reading, with the index of its record
abbrev pub stopped_at : {A : Type 0} → ℕ → Result A JournalStop → Result A (ℕ × JournalStop)
stopped_at index (Ok given) = Ok given
stopped_at index (Err stop) = Err (index, stop)

-- the events of records behind kept ones, the first of which has an index
abbrev pub replay_from : Election → ℕ → List Event → List (List ℕ) → Result (List Event) (ℕ × JournalStop)
replay_from election index kept [] = Ok kept
replay_from election index kept (body ∷ bodies) =
    stopped_at index (read_with election kept body) >>= (λ now. replay_from election (index + 1) now bodies)

-- the events of a journal, or the first record that stops its reading, by its index from 0; without records there are none
abbrev pub replay_of : Election → List (List ℕ) → Result (List Event) (ℕ × JournalStop)
replay_of election [] = Ok []
replay_of election (body ∷ bodies) =
    stopped_at 0 (begun_with election body) >>= (λ none. replay_from election 1 none bodies)
