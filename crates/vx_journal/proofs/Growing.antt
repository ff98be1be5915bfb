-- Journals that grow by a record.
use Rattle.std.proofs.Common.{◌≡◌, ℕ, ◌+◌, true, cond, List, [], ◌∷◌, ◌++◌, Result, Ok, Err, refl, sym, ap, subst, ◌∙◌}
use Rattle.vx_base.specs.Results.{◌>>=◌}
use Rattle.vx_election_model.specs.declared.election.Election.{Election}
use Rattle.vx_events.specs.declared.event.Event.{Event}
use Rattle.vx_events.specs.Fits.{Fits, fits}
use Rattle.vx_refusals.specs.declared.journal.JournalStop.{JournalStop}
use Rattle.vx_refusals.specs.declared.reply.Reply.{Reply}
use Rattle.vx_refusals.specs.declared.reply.Reply.TheVariants.{Done}
use Rattle.vx_center.specs.Replies.{reply_of, is_done}
use Rattle.vx_records.specs.Records.{record_of}
use Rattle.vx_records.specs.Reading.{event_in}
use Rattle.vx_journal.specs.Laws.{IsBegun}
use Rattle.vx_journal.specs.Replay.{unless_bad, begun_with, kept_with, read_with, stopped_at, replay_from, replay_of}

-- steps that go on otherwise
goes_otherwise : {A B F : Type 0} (r : Result A F) (f g : A → Result B F) (x y : B) → ((a : A) → f a ≡ Ok x → g a ≡ Ok y) → (r >>= f) ≡ Ok x → (r >>= g) ≡ Ok y
goes_otherwise (Ok a) f g x y next h = next a h
goes_otherwise (Err e) f g x y next h = absurd cc

module _ (election : Election) (body : List ℕ) (events more : List Event) (reads : read_with election events body ≡ Ok more) where
  -- one record more behind others
  grows_from : (records : List (List ℕ)) (index : ℕ) (kept : List Event) → replay_from election index kept records ≡ Ok events → replay_from election index kept (records ++ body ∷ []) ≡ Ok more
  grows_from [] index kept h =
      let Read : List Event → Type 0 = λ k. read_with election k body ≡ Ok more in
      let is : events ≡ kept = cc in
      ap (λ (r : Result (List Event) JournalStop). stopped_at index r >>= (λ now. replay_from election (index + 1) now [])) (subst Read is reads)
  grows_from (first ∷ records) index kept h =
      goes_otherwise (stopped_at index (read_with election kept first)) (λ now. replay_from election (index + 1) now records) (λ now. replay_from election (index + 1) now (records ++ body ∷ [])) events more
      (λ now. grows_from records (index + 1) now) h

  grows_behind : (first : List ℕ) (further : List (List ℕ)) → replay_of election (first ∷ further) ≡ Ok events → replay_of election (first ∷ (further ++ body ∷ [])) ≡ Ok more
  grows_behind first further h =
      goes_otherwise (stopped_at 0 (begun_with election first)) (λ none. replay_from election 1 none further) (λ none. replay_from election 1 none (further ++ body ∷ [])) events more
      (λ none. grows_from further 1 none) h

  pub grows : (records : List (List ℕ)) → IsBegun election records events → IsBegun election (records ++ body ∷ []) more
  grows records begun =
      let Replays : List (List ℕ) → Type 0 = λ some. replay_of election some ≡ Ok events in
      let Grown : List (List ℕ) → Type 0 = λ some. replay_of election (some ++ body ∷ []) ≡ Ok more in
      record {
        first = begun.first;
        further = begun.further ++ body ∷ [];
        are = ap (λ (some : List (List ℕ)). some ++ body ∷ []) begun.are;
        replays = subst Grown (sym begun.are) (grows_behind begun.first begun.further (subst Replays begun.are begun.replays));
      }

-- the record of an event that fits and is answered with Done
pub reads_event : (election : Election) (events : List Event) (event : Event) → event_in (record_of event) ≡ Ok event → Fits election event → reply_of election events event ≡ Done → read_with election events (record_of event) ≡ Ok (events ++ event ∷ [])
reads_event election events event read fit done =
    ap (λ (r : Result Event ℕ). unless_bad r >>= kept_with election events) read ∙ rw (fit, done) refl
