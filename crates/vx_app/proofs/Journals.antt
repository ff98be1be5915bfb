-- A journal stays one over each run for its election.
use Rattle.std.proofs.Common.{◌≡◌, ℕ, true, false, List, [], ◌∷◌, ◌++◌, Some, Result, Ok, Err, refl, sym, ap, ◌∙◌, subst, append_assoc, append-nil}
use Rattle.std.specs.List.{flat_map}
use Rattle.std.proofs.lemmas.Bool.{false≢true}
use Rattle.vx_base.proofs.Results.{is-ok_from, ok-is}
use Rattle.vx_io.specs.Outside.{Files}
use Rattle.vx_election_model.specs.declared.election.Election.{Election}
use Rattle.vx_events.specs.declared.event.Event.{Event}
use Rattle.vx_command.specs.Acts.{Answer, Outcome, records_of}
use Rattle.vx_command.specs.Done.{Held, IsDone, Taken}
use Rattle.vx_command_center.specs.Laws.{CenterKeepsJournals}
use Rattle.vx_command_center.specs.Outcome.{center_outcome}
use Rattle.vx_command_count.specs.Laws.{CountKeepsJournals}
use Rattle.vx_command_count.specs.Outcome.{count_outcome}
use Rattle.vx_command_decide.specs.Laws.{DecideKeepsJournals}
use Rattle.vx_command_decide.specs.Outcome.{decide_outcome}
use Rattle.vx_journal.specs.Laws.{FrontsAreJournals, HoldsJournal, IsJournal, JournalsStay, StaysJournal}
use Rattle.vx_journal.specs.Replay.{replay_of}
use Rattle.vx_words.specs.declared.command.Command.{Command}
use Rattle.vx_words.specs.declared.command.Command.TheVariants.{Print, Read, Check, Count, Decide, Queue, Export, Demo, Center, Try, Cards, Results, Sample, Desk, Summary, Board, Risk}
use Rattle.vx_words.specs.Words.{IsSound}
use Rattle.vx_app.specs.Outcome.{appends, outcome_of}
use Rattle.vx_app.specs.Journals.{AreRuns, HoldsMore, IsDoneOf, IsFor, IsRun, KeepsMore, Run, RunsKeepEvents, RunsLeaveJournals}
use Rattle.vx_app.specs.Runs.{is_run}

same-given : {A F : Type 0} (r : Result A F) (x y : A) → r ≡ Ok x → r ≡ Ok y → x ≡ y
same-given r x y a b = cc

module _ (election : Election) (records : List (List ℕ)) (events : List Event) (is : replay_of election records ≡ Ok events) where
  -- nothing was appended
  unchanged : (held_now : Held) → held_now ≡ Some records → HoldsMore election events held_now
  unchanged held_now same = record {
    records = records;
    are_held = same;
    more = [];
    keeps = is ∙ ap Ok (sym (append-nil events));
  }

  -- what was appended left a journal
  appended : (stays : JournalsStay) (fronts : FrontsAreJournals) (outcome : Outcome) (taken taken_now : Taken) (held_now : Held) (answer : Answer) → StaysJournal election records outcome.acts → IsDone outcome taken taken_now (Some records) held_now answer → HoldsMore election events held_now
  appended stays fronts outcome taken taken_now held_now answer each done =
      let more = flat_map records_of done.done ++ done.records in
      let Holds : Held → Type 0 = λ held. HoldsJournal election held in
      let now = ok-is (replay_of election (records ++ more)) (subst Holds done.kept (stays election records outcome taken taken_now held_now answer each done)) in
      let further = fronts election records more now.0 now.1 in
      let same : further.events_then ≡ events = same-given (replay_of election records) further.events_then events further.replays is in
      record {
        records = records ++ more;
        are_held = done.kept;
        more = further.more;
        keeps = now.1 ∙ ap Ok (further.are ∙ ap (λ (some : List Event). some ++ further.more) same);
      }

-- a command that `run` does
pub done-of : (command : Command) (files : Files) (records : List (List ℕ)) (taken taken_now : Taken) (held_now : Held) (answer : Answer) → is_run command ≡ true → IsDone (outcome_of command files records) taken taken_now (Some records) held_now answer → IsDoneOf command files records taken taken_now held_now answer
done-of (Print name card kind test) files records taken taken_now held_now answer runs done = done
done-of (Read name scans) files records taken taken_now held_now answer runs done = done
done-of (Check name scans readings) files records taken taken_now held_now answer runs done = done
done-of (Count name batch workers scans) files records taken taken_now held_now answer runs done = done
done-of (Decide name script) files records taken taken_now held_now answer runs done = done
done-of (Queue name) files records taken taken_now held_now answer runs done = done
done-of (Export name moment named) files records taken taken_now held_now answer runs done = done
done-of (Demo seed sheets) files records taken taken_now held_now answer runs done = done
done-of (Try name scans) files records taken taken_now held_now answer runs done = done
done-of (Cards name) files records taken taken_now held_now answer runs done = done
done-of (Results name) files records taken taken_now held_now answer runs done = done
done-of (Sample name seed size hand) files records taken taken_now held_now answer runs done = done
done-of (Desk name batch scans) files records taken taken_now held_now answer runs done = done
done-of (Summary name) files records taken taken_now held_now answer runs done = done
done-of (Board name seed size) files records taken taken_now held_now answer runs done = done
done-of (Risk name seed size hand limit) files records taken taken_now held_now answer runs done = done
done-of (Center name moment named items) files records taken taken_now held_now answer runs done = absurd (false≢true runs)

module _ (count : CountKeepsJournals) (decide : DecideKeepsJournals) (center : CenterKeepsJournals) (stays : JournalsStay) (fronts : FrontsAreJournals) where
  pub kept-over : (command : Command) (device : List ℕ) (files : Files) (election : Election) (records : List (List ℕ)) (events : List Event) (taken taken_now : Taken) (held_now : Held) (answer : Answer) → IsSound device command → IsFor command files election → replay_of election records ≡ Ok events → (appends command ≡ false → held_now ≡ Some records) → IsDoneOf command files records taken taken_now held_now answer → HoldsMore election events held_now
  kept-over (Print name card kind test) device files election records events taken taken_now held_now answer sound for_it is held done = unchanged election records events is held_now (held refl)
  kept-over (Read name scans) device files election records events taken taken_now held_now answer sound for_it is held done = unchanged election records events is held_now (held refl)
  kept-over (Check name scans readings) device files election records events taken taken_now held_now answer sound for_it is held done = unchanged election records events is held_now (held refl)
  kept-over (Count name batch workers scans) device files election records events taken taken_now held_now answer sound for_it is held done =
      appended election records events is stays fronts (count_outcome name batch scans files records) taken taken_now held_now answer
      (count name batch scans files records election sound.batch_in_range for_it (is-ok_from (replay_of election records) events is)) done
  kept-over (Decide name script) device files election records events taken taken_now held_now answer sound for_it is held done =
      appended election records events is stays fronts (decide_outcome name script files records) taken taken_now held_now answer
      (decide name script files records election for_it (is-ok_from (replay_of election records) events is)) done
  kept-over (Queue name) device files election records events taken taken_now held_now answer sound for_it is held done = unchanged election records events is held_now (held refl)
  kept-over (Export name moment named) device files election records events taken taken_now held_now answer sound for_it is held done = unchanged election records events is held_now (held refl)
  kept-over (Demo seed sheets) device files election records events taken taken_now held_now answer sound for_it is held done = unchanged election records events is held_now (held refl)
  kept-over (Try name scans) device files election records events taken taken_now held_now answer sound for_it is held done = unchanged election records events is held_now (held refl)
  kept-over (Cards name) device files election records events taken taken_now held_now answer sound for_it is held done = unchanged election records events is held_now (held refl)
  kept-over (Results name) device files election records events taken taken_now held_now answer sound for_it is held done = unchanged election records events is held_now (held refl)
  kept-over (Sample name seed size hand) device files election records events taken taken_now held_now answer sound for_it is held done = unchanged election records events is held_now (held refl)
  kept-over (Desk name batch scans) device files election records events taken taken_now held_now answer sound for_it is held done = unchanged election records events is held_now (held refl)
  kept-over (Summary name) device files election records events taken taken_now held_now answer sound for_it is held done = unchanged election records events is held_now (held refl)
  kept-over (Board name seed size) device files election records events taken taken_now held_now answer sound for_it is held done = unchanged election records events is held_now (held refl)
  kept-over (Risk name seed size hand limit) device files election records events taken taken_now held_now answer sound for_it is held done = unchanged election records events is held_now (held refl)
  kept-over (Center name moment named items) device files election records events taken taken_now held_now answer sound for_it is held done =
      appended election records events is stays fronts (center_outcome name moment named items files records done.history) taken taken_now held_now answer
      (center name moment named items files records done.history election sound.are_items for_it (is-ok_from (replay_of election records) events is)
      (λ kept taken_items replays are_taken. done.of_items election kept taken_items for_it replays are_taken)) done.done

  -- over one run, and over all
  over-run : (election : Election) (records : List (List ℕ)) (events : List Event) (one : Run) → replay_of election records ≡ Ok events
      → IsRun election records one → (more : List Event) × (replay_of election one.left ≡ Ok (events ++ more))
  over-run election records events one is it =
      let after = kept-over one.command it.spelled.device one.files election records events one.taken one.taken_now (Some one.left) one.answer
      it.spelled.sound it.for_it is it.held it.done in
      let same : after.records ≡ one.left = let held = after.are_held in cc in
      let Keeps : List (List ℕ) → Type 0 = λ some. replay_of election some ≡ Ok (events ++ after.more) in
      (after.more, subst Keeps same after.keeps)

  pub runs-keep : RunsKeepEvents
  runs-keep election records [] left events is are =
      let Keeps : List (List ℕ) → Type 0 = λ some. KeepsMore election events some in
      subst Keeps (sym are) (record { more = []; keeps = is ∙ ap Ok (sym (append-nil events)) })
  runs-keep election records (one ∷ runs) left events is are =
      let here = over-run election records events one is are.0 in
      let behind = runs-keep election one.left runs left (events ++ here.0) here.1 are.1 in
      record { more = here.0 ++ behind.more; keeps = behind.keeps ∙ ap Ok (append_assoc events here.0 behind.more) }

  pub runs-leave : RunsLeaveJournals
  runs-leave election runs left are =
      let kept = runs-keep election [] runs left [] refl are in
      is-ok_from (replay_of election left) ([] ++ kept.more) kept.keeps
