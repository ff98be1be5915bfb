-- Each run leaves the records that were there, and perhaps more behind them.
use Rattle.std.proofs.Common.{◌≡◌, ℕ, false, List, [], ◌∷◌, ◌++◌, Some, refl, sym, ap, ◌∙◌, append_assoc, append-nil}
use Rattle.std.specs.List.{flat_map}
use Rattle.std.proofs.lemmas.Option.{same_Some}
use Rattle.vx_io.specs.Outside.{Files}
use Rattle.vx_election_model.specs.declared.election.Election.{Election}
use Rattle.vx_command.specs.Acts.{Answer, Outcome, records_of}
use Rattle.vx_command.specs.Done.{IsDone, Taken}
use Rattle.vx_words.specs.declared.command.Command.{Command}
use Rattle.vx_words.specs.declared.command.Command.TheVariants.{Print, Read, Check, Count, Decide, Queue, Export, Demo, Center, Try, Cards, Results, Sample, Desk, Summary, Board, Risk}
use Rattle.vx_app.specs.Outcome.{appends}
use Rattle.vx_app.specs.Journals.{AddsRecords, AreRuns, IsDoneOf, IsRun, Run, RunsAddRecords}

module _ (records left : List (List ℕ)) where
  none : Some left ≡ Some records → AddsRecords records left
  none same = record { more = []; are = same_Some left records same ∙ sym (append-nil records) }

  some : (outcome : Outcome) (taken taken_now : Taken) (answer : Answer) → IsDone outcome taken taken_now (Some records) (Some left) answer
      → AddsRecords records left
  some outcome taken taken_now answer done =
      let more = flat_map records_of done.done ++ done.records in
      record { more = more; are = same_Some left (records ++ more) done.kept }

  by : (command : Command) (files : Files) (taken taken_now : Taken) (answer : Answer) → IsDoneOf command files records taken taken_now (Some left) answer
      → (appends command ≡ false → Some left ≡ Some records) → AddsRecords records left
  by (Print name card kind test) files taken taken_now answer done held = none (held refl)
  by (Read name scans) files taken taken_now answer done held = none (held refl)
  by (Check name scans readings) files taken taken_now answer done held = none (held refl)
  by (Count name batch workers scans) files taken taken_now answer done held = some _ taken taken_now answer done
  by (Decide name script) files taken taken_now answer done held = some _ taken taken_now answer done
  by (Queue name) files taken taken_now answer done held = none (held refl)
  by (Export name moment device) files taken taken_now answer done held = none (held refl)
  by (Demo seed sheets) files taken taken_now answer done held = none (held refl)
  by (Try name scans) files taken taken_now answer done held = none (held refl)
  by (Cards name) files taken taken_now answer done held = none (held refl)
  by (Results name) files taken taken_now answer done held = none (held refl)
  by (Sample name seed size hand) files taken taken_now answer done held = none (held refl)
  by (Desk name batch scans) files taken taken_now answer done held = none (held refl)
  by (Summary name) files taken taken_now answer done held = none (held refl)
  by (Board name seed size) files taken taken_now answer done held = none (held refl)
  by (Risk name seed size hand limit) files taken taken_now answer done held = none (held refl)
  by (Center name moment device items) files taken taken_now answer done held = some _ taken taken_now answer done.done

one-adds : (election : Election) (records : List (List ℕ)) (one : Run) → IsRun election records one → AddsRecords records one.left
one-adds election records one run = by records one.left one.command one.files one.taken one.taken_now one.answer run.done run.held

pub all-add : RunsAddRecords
all-add election records [] left are = record { more = []; are = are ∙ sym (append-nil records) }
all-add election records (one ∷ runs) left are =
    let here = one-adds election records one are.0 in
    let behind = all-add election one.left runs left are.1 in
    record {
      more = here.more ++ behind.more;
      are = behind.are ∙ ap (λ (list : List (List ℕ)). list ++ behind.more) here.are ∙ append_assoc records here.more behind.more;
    }
