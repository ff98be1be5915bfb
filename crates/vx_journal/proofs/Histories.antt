-- The events that a journal keeps are a history.
use Rattle.std.proofs.Common.{◌≡◌, ℕ, ◌+◌, ◌<◌, ◌≤◌, zero, suc, ◌⊎◌, inl, inr, Bool, true, false, cond, List, [], ◌∷◌, ◌++◌, length, take, Result, Ok, Err, refl, sym, ap, ◌∙◌, subst, arith}
use Rattle.std.specs.Prelude.{Some, bytes_eq, slice_get}
use Rattle.std.proofs.lemmas.List.{take-append-le}
use Rattle.vx_base.specs.Results.{◌>>=◌}
use Rattle.vx_base.proofs.Booleans.{chosen-if}
use Rattle.vx_base.proofs.Lists.{at-push, take-front}
use Rattle.vx_base.proofs.Results.{bind_ok}
use Rattle.vx_election_model.specs.declared.election.Election.{Election}
use Rattle.vx_events.specs.declared.event.Event.{Event}
use Rattle.vx_events.specs.Fits.{Fits, fits}
use Rattle.vx_refusals.specs.declared.journal.JournalStop.{JournalStop}
use Rattle.vx_refusals.specs.declared.journal.JournalStop.TheVariants.{OtherElection, Refused, Unfit}
use Rattle.vx_refusals.specs.declared.reply.Reply.{Reply}
use Rattle.vx_refusals.specs.declared.reply.Reply.TheVariants.{Done, Repeated, NoSheet, HeldBy, NotHeld, NotOnSheet, NotAnOption, OverSeats, StillMarginal, NoWriteIn, Full}
use Rattle.vx_center.specs.Histories.{IsHistory}
use Rattle.vx_center.specs.Replies.{is_done, reply_of}
use Rattle.vx_records.specs.Reading.{digest_in, event_in}
use Rattle.vx_records.specs.Records.{header_of}
use Rattle.vx_journal.specs.Replay.{begun_with, kept_with, read_with, replay_from, replay_of, stopped_at, unless_bad}

module _ (election : Election) where
  none-kept : IsHistory election []
  none-kept = record { fits = λ place event there. absurd cc; done = λ place event there. absurd cc }

  -- one event more
  one-kept : (kept : List Event) (event : Event) → IsHistory election kept → Fits election event → reply_of election kept event ≡ Done → IsHistory election (kept ++ event ∷ [])
  one-kept kept event history fits done = record {
    fits = λ place one there. fits-at place one (at-push kept event place one there);
    done = λ place one there. done-at place one (at-push kept event place one there);
  }
    where
      fits-at : (place : ℕ) (one : Event) → ((place < length kept) × (slice_get kept place ≡ Some one)) ⊎ ((place ≡ length kept) × (event ≡ one)) → Fits election one
      fits-at place one (inl front) = history.fits place one front.1
      fits-at place one (inr last) = subst (Fits election) last.1 fits

      done-at : (place : ℕ) (one : Event) → ((place < length kept) × (slice_get kept place ≡ Some one)) ⊎ ((place ≡ length kept) × (event ≡ one)) → reply_of election (take place (kept ++ event ∷ [])) one ≡ Done
      done-at place one (inl front) =
          let within : place ≤ length kept = omega (arith, front.0) in
          ap (λ (before : List Event). reply_of election before one) (take-append-le place kept (event ∷ []) within)
          ∙ history.done place one front.1
      done-at place one (inr last) =
          ap (λ (before : List Event). reply_of election before one) (take-front kept (event ∷ []) place (sym last.0))
          ∙ ap (reply_of election kept) (sym last.1)
          ∙ done

  is-done : (reply : Reply) → is_done reply ≡ true → reply ≡ Done
  is-done Done h = refl
  is-done (Repeated place) h = absurd cc
  is-done NoSheet h = absurd cc
  is-done (HeldBy station) h = absurd cc
  is-done NotHeld h = absurd cc
  is-done (NotOnSheet contest) h = absurd cc
  is-done (NotAnOption option) h = absurd cc
  is-done (OverSeats given seats) h = absurd cc
  is-done (StillMarginal option) h = absurd cc
  is-done (NoWriteIn slot) h = absurd cc
  is-done (Full count) h = absurd cc

  -- a record that was read behind a history
  read-kept : (kept : List Event) (body : List ℕ) (now : List Event) → IsHistory election kept → read_with election kept body ≡ Ok now → IsHistory election now
  read-kept kept body now history h =
      let event = bind_ok (unless_bad {A = Event} (event_in body)) (kept_with election kept) now h in
      let fit = chosen-if (fits election event.0) (cond (is_done (reply_of election kept event.0)) (Ok (kept ++ event.0 ∷ [])) (Err (Refused (reply_of election kept event.0)))) Unfit now event.2 in
      let done = chosen-if (is_done (reply_of election kept event.0)) (Ok (kept ++ event.0 ∷ [])) (Refused (reply_of election kept event.0)) now fit.1 in
      let same : kept ++ event.0 ∷ [] ≡ now = let is = done.1 in cc in
      subst (IsHistory election) same (one-kept kept event.0 history fit.0 (is-done (reply_of election kept event.0) done.0))

  unstopped : {A : Type 0} (index : ℕ) (read : Result A JournalStop) (x : A) → stopped_at index read ≡ Ok x → read ≡ Ok x
  unstopped index (Ok y) x h = let same : y ≡ x = cc in ap Ok same
  unstopped index (Err stop) x h = absurd cc

  from-kept : (records : List (List ℕ)) (index : ℕ) (kept events : List Event) → IsHistory election kept → replay_from election index kept records ≡ Ok events → IsHistory election events
  from-kept [] index kept events history h = let same : kept ≡ events = cc in subst (IsHistory election) same history
  from-kept (body ∷ records) index kept events history h =
      let step = bind_ok (stopped_at index (read_with election kept body)) (λ now. replay_from election (index + 1) now records) events h in
      from-kept records (index + 1) step.0 events (read-kept kept body step.0 history (unstopped index (read_with election kept body) step.0 step.1)) step.2

  -- behind the header nothing is kept yet
  begun : (body : List ℕ) (kept : List Event) → begun_with election body ≡ Ok kept → kept ≡ []
  begun body kept h = by (bytes_eq body (header_of election)) h
    where
      by : (b : Bool) → cond b (Ok []) (unless_bad (digest_in body) >>= (λ digest. Err OtherElection)) ≡ Ok kept → kept ≡ []
      by true h = cc
      by false h =
          let step = bind_ok (unless_bad (digest_in body)) (λ digest. Err OtherElection) kept h in
          let never = step.2 in absurd cc

  pub kept-history : (records : List (List ℕ)) (events : List Event) → replay_of election records ≡ Ok events → IsHistory election events
  kept-history [] events h = let same : [] ≡ events = cc in subst (IsHistory election) same none-kept
  kept-history (body ∷ records) events h =
      let step = bind_ok (stopped_at 0 (begun_with election body)) (λ none. replay_from election 1 none records) events h in
      let none : step.0 ≡ [] = begun body step.0 (unstopped 0 (begun_with election body) step.0 step.1) in
      from-kept records 1 step.0 events (subst (IsHistory election) (sym none) none-kept) step.2
