-- The records of a journal are its header and those of its events.
use Rattle.std.proofs.Common.{◌≡◌, ℕ, ◌+◌, Bool, true, false, cond, List, [], ◌∷◌, ◌++◌, map, Result, Ok, Err, refl, sym, ap, ap₂, ◌∙◌, append_assoc, append-nil}
use Rattle.std.specs.Str.{bytes_eq}
use Rattle.std.proofs.lemmas.Slice.Eq.{bytes_eq-Decides}
use Rattle.vx_base.specs.Results.{◌>>=◌}
use Rattle.vx_election_model.specs.declared.election.Election.{Election}
use Rattle.vx_events.specs.declared.event.Event.{Event}
use Rattle.vx_events.specs.Fits.{fits}
use Rattle.vx_refusals.specs.declared.journal.JournalStop.{JournalStop}
use Rattle.vx_refusals.specs.declared.journal.JournalStop.TheVariants.{Bad, Refused, OtherElection, Unfit}
use Rattle.vx_center.specs.Replies.{reply_of, is_done}
use Rattle.vx_records.specs.Laws.{RecordsAreRead}
use Rattle.vx_records.specs.Reading.{digest_in, event_in}
use Rattle.vx_records.specs.Records.{header_of, record_of}
use Rattle.vx_journal.specs.Replay.{begun_with, kept_with, read_with, replay_from, replay_of, stopped_at, unless_bad}
use Rattle.vx_journal.specs.Laws.{JournalsAreTheirEvents}

-- events behind others, whose records these bodies are
record Read (kept : List Event) (bodies : List (List ℕ)) (events : List Event) : Type 0 where
  more : List Event
  are : events ≡ kept ++ more
  records : bodies ≡ map record_of more

module _ (reads : RecordsAreRead) (election : Election) where
  read-from : (index : ℕ) (kept : List Event) (bodies : List (List ℕ)) (events : List Event) → replay_from election index kept bodies ≡ Ok events → Read kept bodies events
  read-from index kept [] events is = let same : kept ≡ events = cc in record { more = []; are = sym same ∙ sym (append-nil kept); records = refl }
  read-from index kept (body ∷ bodies) events is = step (event_in body) refl is (λ event. read-from (index + 1) (kept ++ event ∷ []) bodies events)
    where
      further : Result (List Event) (ℕ × JournalStop) → Result (List Event) (ℕ × JournalStop)
      further r = r >>= (λ now. replay_from election (index + 1) now bodies)

      with_event : (event : Event) → event_in body ≡ Ok event → Read (kept ++ event ∷ []) bodies events → Read kept (body ∷ bodies) events
      with_event event is behind = record {
        more = event ∷ behind.more;
        are = behind.are ∙ append_assoc kept (event ∷ []) behind.more;
        records = ap₂ (λ (one : List ℕ) (rest : List (List ℕ)). one ∷ rest) (sym (reads.alone body event is).1) behind.records;
      }

      by_done : (event : Event) (done : Bool) → further (stopped_at index (cond done (Ok (kept ++ event ∷ [])) (Err (Refused (reply_of election kept event))))) ≡ Ok events
          → replay_from election (index + 1) (kept ++ event ∷ []) bodies ≡ Ok events
      by_done event true is = is
      by_done event false is = absurd cc

      by_fits : (event : Event) (fit : Bool) → further (stopped_at index (cond fit (cond (is_done (reply_of election kept event)) (Ok (kept ++ event ∷ [])) (Err (Refused (reply_of election kept event)))) (Err Unfit))) ≡ Ok events
          → replay_from election (index + 1) (kept ++ event ∷ []) bodies ≡ Ok events
      by_fits event true is = by_done event (is_done (reply_of election kept event)) is
      by_fits event false is = absurd cc

      step : (r : Result Event ℕ) → event_in body ≡ r → further (stopped_at index (unless_bad r >>= kept_with election kept)) ≡ Ok events
          → ((event : Event) → replay_from election (index + 1) (kept ++ event ∷ []) bodies ≡ Ok events → Read (kept ++ event ∷ []) bodies events) → Read kept (body ∷ bodies) events
      step (Ok event) reading is behind = with_event event reading (behind event (by_fits event (fits election event) is))
      step (Err at) reading is behind = absurd cc

  by_header : (same : Bool) (header : List ℕ) (bodies : List (List ℕ)) (events : List Event) → bytes_eq header (header_of election) ≡ same
      → (stopped_at 0 (cond same (Ok []) (unless_bad (digest_in header) >>= (λ digest. Err OtherElection))) >>= (λ none. replay_from election 1 none bodies)) ≡ Ok events
      → (header ≡ header_of election) × (replay_from election 1 [] bodies ≡ Ok events)
  by_header true header bodies events same is = ((bytes_eq-Decides header (header_of election)).0 same, is)
  by_header false header bodies events same is = by_digest (digest_in header) is
    where
      by_digest : (r : Result (List ℕ) ℕ) → (stopped_at 0 (unless_bad r >>= (λ digest. Err OtherElection)) >>= (λ none. replay_from election 1 none bodies)) ≡ Ok events
          → (header ≡ header_of election) × (replay_from election 1 [] bodies ≡ Ok events)
      by_digest (Ok digest) is = absurd cc
      by_digest (Err at) is = absurd cc

pub their-events : RecordsAreRead → JournalsAreTheirEvents
their-events reads election [] events is = let same : [] ≡ events = cc in sym same
their-events reads election (header ∷ bodies) events is =
    let begun = by_header reads election (bytes_eq header (header_of election)) header bodies events refl is in
    let read = read-from reads election 1 [] bodies events begun.1 in
    (begun.0, read.records ∙ ap (map record_of) (sym read.are))
