-- What `results` and `summary` write of a journal.
use Rattle.std.specs.Prelude.{◌≡◌, ℕ, List, Ok}
use Rattle.vx_io.specs.Outside.{Files, Took}
use Rattle.vx_election_model.specs.declared.election.Election.{Election}
use Rattle.vx_events.specs.declared.event.Event.{Event}
use Rattle.vx_center.specs.Histories.{IsHistory}
use Rattle.vx_command.specs.Acts.{Answer}
use Rattle.vx_command.specs.Done.{Taken, Held, IsDone}
use Rattle.vx_command.specs.Elections.{election_in}
use Rattle.vx_journal.specs.Replay.{replay_of}
use Rattle.vx_results.specs.Results.{results_text}
use Rattle.vx_results.specs.Summary.{summary_text}
use Rattle.vx_results.specs.Outcome.{results_outcome, summary_outcome}

-- The election under a name was read, the records are a journal of it, and all that was written are the results of exactly
-- the events that the journal keeps, which are a history of the counting machine.
pub record WroteResults (name : List ℕ) (files : Files) (records : List (List ℕ)) (taken taken_now : Taken) : Type 0 where
  pub election : Election
  pub is_read : election_in (files name) ≡ Ok election
  pub events : List Event
  pub are_kept : replay_of election records ≡ Ok events
  pub text : Took taken taken_now (results_text election events)
  pub history : IsHistory election events

-- whatever stands of the acts of `results`, so it is where it ended well
abbrev pub ResultsAreOfWhatWasKept : Type 0
ResultsAreOfWhatWasKept =
    (name : List ℕ) (files : Files) (records : List (List ℕ)) (taken taken_now : Taken) (held held_now : Held)
    (answer : Answer) → IsDone (results_outcome name files records) taken taken_now held held_now answer
    → answer ≡ Ok tt → WroteResults name files records taken taken_now

-- The same of `summary`: all that was written is the summary of exactly the events that the journal keeps.
pub record WroteSummary (name : List ℕ) (files : Files) (records : List (List ℕ)) (taken taken_now : Taken) : Type 0 where
  pub election : Election
  pub is_read : election_in (files name) ≡ Ok election
  pub events : List Event
  pub are_kept : replay_of election records ≡ Ok events
  pub text : Took taken taken_now (summary_text election events)
  pub history : IsHistory election events

-- whatever stands of the acts of `summary`, so it is where it ended well
abbrev pub SummaryIsOfWhatWasKept : Type 0
SummaryIsOfWhatWasKept =
    (name : List ℕ) (files : Files) (records : List (List ℕ)) (taken taken_now : Taken) (held held_now : Held)
    (answer : Answer) → IsDone (summary_outcome name files records) taken taken_now held held_now answer
    → answer ≡ Ok tt → WroteSummary name files records taken taken_now
