-- What `board` writes of a journal.
use Rattle.std.specs.Prelude.{◌≡◌, ℕ, List, Ok}
use Rattle.vx_io.specs.Outside.{Files, Took}
use Rattle.vx_election_model.specs.declared.election.Election.{Election}
use Rattle.vx_events.specs.declared.event.Event.{Event}
use Rattle.vx_center.specs.Histories.{IsHistory}
use Rattle.vx_command.specs.Acts.{Answer}
use Rattle.vx_command.specs.Done.{Taken, Held, IsDone}
use Rattle.vx_command.specs.Elections.{election_in}
use Rattle.vx_journal.specs.Replay.{replay_of}
use Rattle.vx_board.specs.Data.{board_text}
use Rattle.vx_board.specs.Outcome.{board_outcome}

-- The election under a name was read, the records are a journal of it, and all that was written is the page of exactly the
-- events that the journal keeps, which are a history of the counting machine.
pub record WroteBoard (name seed : List ℕ) (size : ℕ) (files : Files) (records : List (List ℕ)) (taken taken_now : Taken)
    : Type 0 where
  pub election : Election
  pub is_read : election_in (files name) ≡ Ok election
  pub events : List Event
  pub are_kept : replay_of election records ≡ Ok events
  pub text : Took taken taken_now (board_text election events seed size)
  pub history : IsHistory election events

-- whatever stands of the acts of `board`, so it is where it ended well
abbrev pub BoardIsOfWhatWasKept : Type 0
BoardIsOfWhatWasKept =
    (name seed : List ℕ) (size : ℕ) (files : Files) (records : List (List ℕ)) (taken taken_now : Taken)
    (held held_now : Held) (answer : Answer)
    → IsDone (board_outcome name seed size files records) taken taken_now held held_now answer
    → answer ≡ Ok tt → WroteBoard name seed size files records taken taken_now
