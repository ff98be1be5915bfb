use Rattle.std.proofs.Common.{◌≡◌, ℕ, List, Some, Err, Ok, Result, ap, sym, subst, ◌∙◌, rules, arith, refl}
use Rattle.std.specs.Prelude.{slice_get}
use Rattle.std.proofs.lemmas.Result.{err_from_is_err_and}
use Rattle.vx_events.specs.declared.event.Event.{Event}
use Rattle.vx_refusals.specs.declared.journal.JournalStop.{JournalStop}
use Rattle.vx_journal.specs.declared.fault.ReplayFault.{ReplayFault}
use Rattle.vx_journal.specs.Replay.{read_with, replay_from}
use Rattle.vx_journal.specs.Replaying.{ReadsAll, ReadsOne}
use Rattle.vx_journal.proofs.Replayed.{told_at, one_read, one_stops}
use Rattle.vx_journal.proofs.replaying.read_events.Goals as goal

pub returns-in_err-read_event-clause-told : goal.returns-in_err-read_event-clause-told
returns-in_err-read_event-clause-told g c records told =
    let err = err_from_is_err_and c.from_residual-in_err-read_event.result c.from_residual-in_err-read_event.ensures.1 in
    let All : Result (List Event) (ℕ × JournalStop) → Type 0 = λ defined. ReadsAll defined c.read_event.new.center.events (Err c.in_err-read_event.field-0.0) in
    let Read : List ℕ → Type 0 = λ body. ReadsOne c.loop-index.index (read_with c.loop-index.center.election c.loop-index.center.events body) c.read_event.new.center.events (Err c.in_err-read_event.field-0.0) in
    let at : slice_get records c.loop-index.index ≡ Some c.fetch.new.into = told_at c.loop-index.center.election c.loop-index.index c.loop-index.center.events records c.fetch.new.into _ (c.loop-index.invariant.same ∙ told) c.in_ok-fetch.ensures.fetched in
    rw (err.1 ∙ ap Err err.2)
    (subst All (c.loop-index.invariant.reads records told)
    (one_stops c.loop-index.center.election c.loop-index.index c.loop-index.center.events records c.fetch.new.into c.in_err-read_event.field-0.0 c.read_event.new.center.events c.read_event.new.center.events at (subst Read c.as_slice.ensures c.in_err-read_event.ensures.read)))

pub loop-index-preserved : goal.loop-index-preserved
loop-index-preserved g c = record {
  reads = λ records told.
      let Read : List ℕ → Type 0 = λ body. read_with c.loop-index.center.election c.loop-index.center.events body ≡ Ok c.read_event.new.center.events in
      let at : slice_get records c.loop-index.index ≡ Some c.fetch.new.into = told_at c.loop-index.center.election c.loop-index.index c.loop-index.center.events records c.fetch.new.into _ (c.loop-index.invariant.same ∙ told) c.in_ok-fetch.ensures.fetched in
      rw c.in_ok-read_event.ensures.election
      (one_read c.loop-index.center.election c.loop-index.index c.loop-index.center.events records c.fetch.new.into c.read_event.new.center.events at (subst Read c.as_slice.ensures c.in_ok-read_event.ensures.read)
      ∙ c.loop-index.invariant.reads records told);
  same_election = c.in_ok-read_event.ensures.election ∙ c.loop-index.invariant.same_election;
  same = c.fetch.ensures.held ∙ c.loop-index.invariant.same;
  no_fault = c.in_ok-fetch.ensures.cause.still refl ∙ c.loop-index.invariant.no_fault;
  low = omega arith;
}
