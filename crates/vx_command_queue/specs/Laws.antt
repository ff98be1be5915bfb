-- What `queue` writes of a journal: a line for exactly the contests that wait.
use Rattle.std.specs.Prelude.{◌≡◌, ℕ, not, List, filter, map, slice_get, Option, Some, Ok, option_map}
use Rattle.std.specs.List.{flat_map}
use Rattle.vx_io.specs.Outside.{Files, Took}
use Rattle.vx_election_model.specs.declared.contest.Contest.{Contest}
use Rattle.vx_election_model.specs.declared.election.Election.{Election}
use Rattle.vx_rules.specs.declared.marks.ContestMarks.{ContestMarks}
use Rattle.vx_rules.specs.Reasons.{is_blank_sheet, reasons_of}
use Rattle.vx_events.specs.declared.event.Event.{Event}
use Rattle.vx_center.specs.Histories.{IsHistory}
use Rattle.vx_center.specs.Holders.{holder_of}
use Rattle.vx_center.specs.Sheets.{Added, sheets_in}
use Rattle.vx_center.specs.Waiting.{exports}
use Rattle.vx_command.specs.Acts.{Answer}
use Rattle.vx_command.specs.Done.{Taken, Held, IsDone}
use Rattle.vx_command.specs.Elections.{election_in}
use Rattle.vx_journal.specs.Replay.{replay_of}
use Rattle.vx_command_queue.specs.Outcome.{queue_outcome}
use Rattle.vx_command_queue.specs.Queue.{queue_lines, queue_text, wait_line}

-- a contest of a sheet that was added
pub record OfSheet : Type 0 where
  pub added : Added
  pub marks : ContestMarks

-- the contests of a sheet that aren't exported, in order
abbrev pub waiting_on : Election → List Event → Added → List OfSheet
waiting_on election kept added =
    map (λ (marks : ContestMarks). record { added = added; marks = marks })
    (filter (λ (marks : ContestMarks). not (exports election kept added marks)) added.sheet.contests)

-- those of all sheets, in the order of adding: what waits for a decision
abbrev pub waiting_in : Election → List Event → List OfSheet
waiting_in election kept = flat_map (waiting_on election kept) (sheets_in kept)

-- the line of a contest that the election has: its sheet's key, its id, the enabled reasons that hold, and who holds the
-- sheet
abbrev pub line_at : Election → List Event → OfSheet → Option Contest → Option (List ℕ)
line_at election kept one found =
    option_map (λ (contest : Contest). wait_line one.added.key contest.id
    (reasons_of contest one.marks.states (is_blank_sheet one.added.sheet) election.reasons)
    (holder_of kept one.added.key)) found

abbrev pub line_of_waiting : Election → List Event → OfSheet → Option (List ℕ)
line_of_waiting election kept one = line_at election kept one (slice_get election.contests one.marks.contest)

-- two that wait under one key and of one contest are one
abbrev pub WaitsOnce : List OfSheet → Type 0
WaitsOnce waiting =
    (place further : ℕ) (one other : OfSheet)
    → slice_get waiting place ≡ Some one → slice_get waiting further ≡ Some other
    → one.added.key ≡ other.added.key → one.marks.contest ≡ other.marks.contest → place ≡ further

-- the lines are exactly those of what waits, in order, each once
pub record ListsWhatWaits (election : Election) (kept : List Event) : Type 0 where
  pub lines : map Some (queue_lines election kept) ≡ map (line_of_waiting election kept) (waiting_in election kept)
  pub once : WaitsOnce (waiting_in election kept)

-- so it is of every history
abbrev pub QueuesListWhatWaits : Type 0
QueuesListWhatWaits = (election : Election) (kept : List Event) → IsHistory election kept → ListsWhatWaits election kept

-- The election under a name was read, the records are a journal of it, and all that was written is the queue's text of
-- exactly the events that the journal keeps: a line for each contest that waits, and then how many they are.
pub record WroteWhatWaits (name : List ℕ) (files : Files) (records : List (List ℕ)) (taken taken_now : Taken) : Type 0 where
  pub election : Election
  pub is_read : election_in (files name) ≡ Ok election
  pub events : List Event
  pub are_kept : replay_of election records ≡ Ok events
  pub text : Took taken taken_now (queue_text election events)
  pub history : IsHistory election events
  pub lists : ListsWhatWaits election events

-- so it is where `queue` ended well
abbrev pub QueueWritesWhatWaits : List ℕ → Files → List (List ℕ) → Taken → Taken → Answer → Type 0
QueueWritesWhatWaits name files records taken taken_now answer =
    answer ≡ Ok tt → WroteWhatWaits name files records taken taken_now

-- whatever stands of the acts of `queue`
abbrev pub QueuesWriteWhatWaits : Type 0
QueuesWriteWhatWaits =
    (name : List ℕ) (files : Files) (records : List (List ℕ)) (taken taken_now : Taken) (held held_now : Held)
    (answer : Answer) → IsDone (queue_outcome name files records) taken taken_now held held_now answer
    → QueueWritesWhatWaits name files records taken taken_now answer
