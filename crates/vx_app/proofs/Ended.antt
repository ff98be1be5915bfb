-- A run that ended well has appended the records of all its acts.
use Rattle.std.proofs.Common.{◌≡◌, ◌⊎◌, inl, inr, ℕ, true, false, List, [], ◌∷◌, ◌++◌, Some, Ok, Err, refl, sym, ap, subst, ◌∙◌, append-nil}
use Rattle.std.specs.List.{flat_map}
use Rattle.std.proofs.lemmas.Bool.{false≢true}
use Rattle.std.proofs.lemmas.Option.{same_Some}
use Rattle.vx_io.specs.Outside.{Files}
use Rattle.vx_election_model.specs.declared.election.Election.{Election}
use Rattle.vx_events.specs.declared.event.Event.{Event}
use Rattle.vx_command.specs.Acts.{Answer, Outcome, records_of}
use Rattle.vx_command.specs.Done.{BreaksOff, Held, IsDone, IsWhole, Taken}
use Rattle.vx_journal.specs.Laws.{JournalsAreTheirEvents}
use Rattle.vx_words.specs.declared.command.Command.{Command}
use Rattle.vx_words.specs.declared.command.Command.TheVariants.{Print, Read, Check, Count, Decide, Queue, Export, Demo, Center, Try, Cards, Results, Sample, Desk, Summary, Board, Risk}
use Rattle.vx_app.specs.Outcome.{outcome_of}
use Rattle.vx_app.specs.Journals.{EndedRunsKeepTheirActs, IsDoneOf, RunsKeepEvents}
use Rattle.vx_app.specs.Runs.{is_run}

-- the acts of a command that `run` does
is-done : (command : Command) (files : Files) (records : List (List ℕ)) (taken taken_now : Taken) (held_now : Held) (answer : Answer) → is_run command ≡ true
    → IsDoneOf command files records taken taken_now held_now answer → IsDone (outcome_of command files records) taken taken_now (Some records) held_now answer
is-done (Print name card kind test) files records taken taken_now held_now answer runs done = done
is-done (Read name scans) files records taken taken_now held_now answer runs done = done
is-done (Check name scans readings) files records taken taken_now held_now answer runs done = done
is-done (Count name batch workers scans) files records taken taken_now held_now answer runs done = done
is-done (Decide name script) files records taken taken_now held_now answer runs done = done
is-done (Queue name) files records taken taken_now held_now answer runs done = done
is-done (Export name moment named) files records taken taken_now held_now answer runs done = done
is-done (Demo seed sheets) files records taken taken_now held_now answer runs done = done
is-done (Try name scans) files records taken taken_now held_now answer runs done = done
is-done (Cards name) files records taken taken_now held_now answer runs done = done
is-done (Results name) files records taken taken_now held_now answer runs done = done
is-done (Sample name seed size hand) files records taken taken_now held_now answer runs done = done
is-done (Desk name batch scans) files records taken taken_now held_now answer runs done = done
is-done (Summary name) files records taken taken_now held_now answer runs done = done
is-done (Board name seed size) files records taken taken_now held_now answer runs done = done
is-done (Risk name seed size hand limit) files records taken taken_now held_now answer runs done = done
is-done (Center name moment named items) files records taken taken_now held_now answer runs done = absurd (false≢true runs)

-- where all acts are done, all their records are kept
ended : (outcome : Outcome) (taken taken_now : Taken) (records left : List (List ℕ)) → IsDone outcome taken taken_now (Some records) (Some left) (Ok tt)
    → left ≡ records ++ flat_map records_of outcome.acts
ended outcome taken taken_now records left done = by done.ends
  where
    by : IsWhole outcome.ends (Ok tt) done.left done.text done.records ⊎ BreaksOff (Ok tt) done.left done.text done.records → left ≡ records ++ flat_map records_of outcome.acts
    by (inl whole) =
        let acts : outcome.acts ≡ done.done = done.are_acts ∙ ap (λ more. done.done ++ more) whole.all ∙ append-nil done.done in
        same_Some left (records ++ (flat_map records_of done.done ++ done.records)) done.kept
        ∙ ap (λ more. records ++ (flat_map records_of done.done ++ more)) whole.no_more.1
        ∙ ap (λ more. records ++ more) (append-nil (flat_map records_of done.done) ∙ ap (flat_map records_of) (sym acts))
    by (inr broke) = absurd broke

pub all-kept : RunsKeepEvents → JournalsAreTheirEvents → EndedRunsKeepTheirActs
all-kept keeps theirs election records events one is run runs well =
    let kept = keeps election records (one ∷ []) one.left events is (run, refl) in
    let Done : Answer → Type 0 = λ answer. IsDone (outcome_of one.command one.files records) one.taken one.taken_now (Some records) (Some one.left) answer in
    let done = subst Done well (is-done one.command one.files records one.taken one.taken_now (Some one.left) one.answer runs run.done) in
    record {
      appended = ended (outcome_of one.command one.files records) one.taken one.taken_now records one.left done;
      further = kept.more;
      keeps = kept.keeps;
      are_records = theirs election one.left (events ++ kept.more) kept.keeps;
    }
