-- Records that are read one after another.
use Rattle.std.proofs.Common.{◌≡◌, ℕ, ◌+◌, List, ◌∷◌, drop, Option, Some, Result, Ok, Err, refl, sym, ap, subst, ◌∙◌}
use Rattle.std.specs.Prelude.{slice_get}
use Rattle.vx_base.proofs.Lists.{left-from}
use Rattle.vx_base.specs.Results.{◌>>=◌}
use Rattle.vx_election_model.specs.declared.election.Election.{Election}
use Rattle.vx_events.specs.declared.event.Event.{Event}
use Rattle.vx_refusals.specs.declared.journal.JournalStop.{JournalStop}
use Rattle.vx_io.specs.Outside.{IsRecordAt}
use Rattle.vx_journal.specs.declared.fault.ReplayFault.{ReplayFault}
use Rattle.vx_journal.specs.declared.fault.ReplayFault.TheVariants.{Stopped, Failed, OutOfMemory}
use Rattle.vx_journal.specs.Replay.{read_with, stopped_at, replay_from}
use Rattle.vx_journal.specs.Replaying.{ReadsAll, ReadsOne}

module _ (election : Election) (index : ℕ) (kept : List Event) (records : List (List ℕ)) (body : List ℕ) where
  next_read : slice_get records index ≡ Some body → replay_from election index kept (drop index records) ≡ (stopped_at index (read_with election kept body) >>= (λ now. replay_from election (index + 1) now (drop (index + 1) records)))
  next_read is = ap (replay_from election index kept) (left-from records index body is)

  -- what stands at the index, where the keeper tells
  pub told_at : (told : Option (List (List ℕ))) → told ≡ Some records → IsRecordAt told index body → slice_get records index ≡ Some body
  told_at told is at = let Is : Option (List (List ℕ)) → Type 0 = λ some. IsRecordAt some index body in subst Is is at

  -- one record more was read
  pub one_read : (now : List Event) → slice_get records index ≡ Some body → read_with election kept body ≡ Ok now → replay_from election (index + 1) now (drop (index + 1) records) ≡ replay_from election index kept (drop index records)
  one_read now is reads =
      sym
      (next_read is
      ∙ ap (λ (r : Result (List Event) JournalStop). stopped_at index r >>= (λ some. replay_from election (index + 1) some (drop (index + 1) records))) reads)

  stops : (stop : JournalStop) → slice_get records index ≡ Some body → read_with election kept body ≡ Err stop → replay_from election index kept (drop index records) ≡ Err (index, stop)
  stops stop is reads =
      next_read is
      ∙ ap (λ (r : Result (List Event) JournalStop). stopped_at index r >>= (λ some. replay_from election (index + 1) some (drop (index + 1) records))) reads

  -- a record that wasn't read stops all
  pub one_stops : (fault : ReplayFault) (some all : List Event) → slice_get records index ≡ Some body → ReadsOne index (read_with election kept body) some (Err fault) → ReadsAll (replay_from election index kept (drop index records)) all (Err fault)
  one_stops (Stopped at stop) some all is (same, reads) = stops stop is reads ∙ ap (λ (n : ℕ). Err (n, stop)) (sym same)
  one_stops Failed some all is never = absurd never
  one_stops OutOfMemory some all is reads = tt
