-- What `export` writes of a journal.
use Rattle.std.specs.Prelude.{◌≡◌, ℕ, List, Ok}
use Rattle.vx_io.specs.Outside.{Files, Took}
use Rattle.vx_election_model.specs.declared.election.Election.{Election}
use Rattle.vx_events.specs.declared.event.Event.{Event}
use Rattle.vx_center.specs.Histories.{IsHistory}
use Rattle.vx_center.specs.Shown.{ShowsWhatWasKept}
use Rattle.vx_cvr.specs.Report.{report_of}
use Rattle.vx_command.specs.Acts.{Answer}
use Rattle.vx_command.specs.Done.{Taken, Held, IsDone}
use Rattle.vx_command.specs.Elections.{election_in}
use Rattle.vx_journal.specs.Replay.{replay_of}
use Rattle.vx_command_export.specs.Outcome.{export_outcome}

-- The election under a name was read, the records are a journal of it, and all that was written is the report of
-- exactly the events that the journal keeps. These are a history of the counting machine, and the report's rows show
-- them: the exported contests alone, as they were read with the last decisions applied, one with a marginal option only
-- where it was ruled, none that has a reason and no decision.
pub record WroteWhatWasKept (name moment device : List ℕ) (files : Files) (records : List (List ℕ)) (taken taken_now : Taken) : Type 0 where
  pub election : Election
  pub is_read : election_in (files name) ≡ Ok election
  pub events : List Event
  pub are_kept : replay_of election records ≡ Ok events
  pub report : Took taken taken_now (report_of election events moment device)
  pub history : IsHistory election events
  pub shows : ShowsWhatWasKept election events

-- so it is where `export` ended well
abbrev pub ExportWritesWhatWasKept : List ℕ → List ℕ → List ℕ → Files → List (List ℕ) → Taken → Taken → Answer → Type 0
ExportWritesWhatWasKept name moment device files records taken taken_now answer =
    answer ≡ Ok tt → WroteWhatWasKept name moment device files records taken taken_now

-- whatever stands of the acts of `export`
abbrev pub ExportsWriteWhatWasKept : Type 0
ExportsWriteWhatWasKept =
    (name moment device : List ℕ) (files : Files) (records : List (List ℕ)) (taken taken_now : Taken)
    (held held_now : Held) (answer : Answer)
    → IsDone (export_outcome name moment device files records) taken taken_now held held_now answer
    → ExportWritesWhatWasKept name moment device files records taken taken_now answer
