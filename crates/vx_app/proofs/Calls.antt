-- A call over inputs and a keeper that tell what they hold is a run.
use Rattle.std.proofs.Common.{◌≡◌, ℕ, false, List, ◌++◌, Some, sym, ◌∙◌, subst}
use Rattle.std.specs.List.{flat_map}
use Rattle.vx_io.specs.Outside.{Files}
use Rattle.vx_election_model.specs.declared.election.Election.{Election}
use Rattle.vx_command.specs.Acts.{Answer, Outcome, records_of}
use Rattle.vx_command.specs.Done.{Held, IsDone, Taken}
use Rattle.vx_words.specs.declared.command.Command.{Command}
use Rattle.vx_words.specs.declared.command.Command.TheVariants.{Print, Read, Check, Count, Decide, Queue, Export, Demo, Center, Try, Cards, Results, Sample, Desk, Summary, Board, Risk}
use Rattle.vx_words.specs.Words.{Spells}
use Rattle.vx_app.specs.Outcome.{appends}
use Rattle.vx_app.specs.Journals.{IsDoneOf, IsFor, IsRunOver}

-- a keeper that told what it held tells it still
abbrev Tells : Held → Type 0
Tells held_now = (left : List (List ℕ)) × (held_now ≡ Some left)

tells : (outcome : Outcome) (records : List (List ℕ)) (taken taken_now : Taken) (held_now : Held) (answer : Answer)
    → IsDone outcome taken taken_now (Some records) held_now answer → Tells held_now
tells outcome records taken taken_now held_now answer done = (records ++ (flat_map records_of done.done ++ done.records), done.kept)

tells-of : (command : Command) (files : Files) (records : List (List ℕ)) (taken taken_now : Taken) (held_now : Held) (answer : Answer)
    → IsDoneOf command files records taken taken_now held_now answer → Tells held_now
tells-of (Print name card kind test) files records taken taken_now held_now answer done = tells _ records taken taken_now held_now answer done
tells-of (Read name scans) files records taken taken_now held_now answer done = tells _ records taken taken_now held_now answer done
tells-of (Check name scans readings) files records taken taken_now held_now answer done = tells _ records taken taken_now held_now answer done
tells-of (Count name batch workers scans) files records taken taken_now held_now answer done = tells _ records taken taken_now held_now answer done
tells-of (Decide name script) files records taken taken_now held_now answer done = tells _ records taken taken_now held_now answer done
tells-of (Queue name) files records taken taken_now held_now answer done = tells _ records taken taken_now held_now answer done
tells-of (Export name moment device) files records taken taken_now held_now answer done = tells _ records taken taken_now held_now answer done
tells-of (Demo seed sheets) files records taken taken_now held_now answer done = tells _ records taken taken_now held_now answer done
tells-of (Try name scans) files records taken taken_now held_now answer done = tells _ records taken taken_now held_now answer done
tells-of (Cards name) files records taken taken_now held_now answer done = tells _ records taken taken_now held_now answer done
tells-of (Results name) files records taken taken_now held_now answer done = tells _ records taken taken_now held_now answer done
tells-of (Sample name seed size hand) files records taken taken_now held_now answer done = tells _ records taken taken_now held_now answer done
tells-of (Desk name batch scans) files records taken taken_now held_now answer done = tells _ records taken taken_now held_now answer done
tells-of (Summary name) files records taken taken_now held_now answer done = tells _ records taken taken_now held_now answer done
tells-of (Board name seed size) files records taken taken_now held_now answer done = tells _ records taken taken_now held_now answer done
tells-of (Risk name seed size hand limit) files records taken taken_now held_now answer done = tells _ records taken taken_now held_now answer done
tells-of (Center name moment device items) files records taken taken_now held_now answer done = tells _ records taken taken_now held_now answer done.done

pub is-run : (election : Election) (records words : List (List ℕ)) (command : Command) (files : Files) (taken taken_now : Taken) (held_now : Held) (answer : Answer)
    → Spells words command → IsFor command files election → (appends command ≡ false → held_now ≡ Some records)
    → IsDoneOf command files records taken taken_now held_now answer
    → IsRunOver election records words command files taken taken_now held_now answer
is-run election records words command files taken taken_now held_now answer spelled for_it held done =
    let told = tells-of command files records taken taken_now held_now answer done in
    let Done : Held → Type 0 = λ now. IsDoneOf command files records taken taken_now now answer in
    record {
      left = told.0;
      holds = told.1;
      is_run = record {
        spelled = spelled;
        for_it = for_it;
        done = subst Done told.1 done;
        held = λ still. sym told.1 ∙ held still;
      };
    }
