-- What runs of commands for an election leave of its journal.
use Rattle.std.specs.Prelude.{◌≡◌, ℕ, true, false, List, [], ◌∷◌, ◌++◌, Some, Ok}
use Rattle.std.specs.List.{flat_map}
use Rattle.vx_io.specs.Outside.{Files}
use Rattle.vx_election_model.specs.declared.election.Election.{Election}
use Rattle.vx_events.specs.declared.event.Event.{Event}
use Rattle.vx_command.specs.Acts.{Answer, records_of}
use Rattle.vx_command.specs.Done.{Taken, Held, IsDone}
use Rattle.vx_command.specs.Elections.{election_in}
use Rattle.vx_command_center.specs.Runs.{Centers}
use Rattle.vx_journal.specs.Laws.{AreRecordsOf, IsJournal}
use Rattle.vx_journal.specs.Replay.{replay_of}
use Rattle.vx_words.specs.declared.command.Command.{Command}
use Rattle.vx_words.specs.declared.command.Command.TheVariants.{Print, Read, Check, Count, Decide, Queue, Export, Demo, Center, Try, Cards, Results, Sample, Desk, Summary, Board, Risk}
use Rattle.vx_words.specs.Words.{Spells}
use Rattle.vx_app.specs.Outcome.{appends, outcome_of}
use Rattle.vx_app.specs.Runs.{is_run}

-- the election under a name
abbrev pub IsNamed : List ℕ → Files → Election → Type 0
IsNamed name files election = election_in (files name) ≡ Ok election

-- a command is for the election under the name that it was given; `demo` has one of its own, and may be run beside any
abbrev pub IsFor : Command → Files → Election → Type 0
IsFor (Print name card kind test) = IsNamed name
IsFor (Read name scans) = IsNamed name
IsFor (Check name scans readings) = IsNamed name
IsFor (Count name batch workers scans) = IsNamed name
IsFor (Decide name script) = IsNamed name
IsFor (Queue name) = IsNamed name
IsFor (Export name moment device) = IsNamed name
IsFor (Demo seed sheets) = λ files election. Unit {0}
IsFor (Center name moment device items) = IsNamed name
IsFor (Try name scans) = IsNamed name
IsFor (Cards name) = IsNamed name
IsFor (Results name) = IsNamed name
IsFor (Sample name seed size hand) = IsNamed name
IsFor (Desk name batch scans) = IsNamed name
IsFor (Summary name) = IsNamed name
IsFor (Board name seed size) = IsNamed name
IsFor (Risk name seed size hand limit) = IsNamed name

-- a keeper holds a journal of an election that keeps these events, and perhaps more behind them
pub record HoldsMore (election : Election) (events : List Event) (held : Held) : Type 0 where
  pub records : List (List ℕ)
  pub are_held : held ≡ Some records
  pub more : List Event
  pub keeps : replay_of election records ≡ Ok (events ++ more)

-- acts of a command are done up to some place, by its outcome; those of `center` by a history of its items
abbrev pub IsDoneOf : Command → Files → List (List ℕ) → Taken → Taken → Held → Answer → Type 0
IsDoneOf (Center name moment device items) files records taken taken_now held_now answer =
    Centers name moment device items files records taken taken_now (Some records) held_now answer
IsDoneOf command files records taken taken_now held_now answer =
    IsDone (outcome_of command files records) taken taken_now (Some records) held_now answer

-- a run of a command: the words, the files that it found, what the sink had taken before and after it, the records that
-- it left, and its answer
pub record Run : Type 0 where
  pub words : List (List ℕ)
  pub command : Command
  pub files : Files
  pub taken : Taken
  pub taken_now : Taken
  pub left : List (List ℕ)
  pub answer : Answer

-- it is a run for an election over records, whatever it answered: so far as `run` and `run_center` promise of its acts and
-- its keeper
pub record IsRun (election : Election) (records : List (List ℕ)) (some : Run) : Type 0 where
  pub spelled : Spells some.words some.command
  pub for_it : IsFor some.command some.files election
  pub done : IsDoneOf some.command some.files records some.taken some.taken_now (Some some.left) some.answer
  pub held : appends some.command ≡ false → Some some.left ≡ Some records

-- a call that is a run for an election over records: the keeper holds what it left
pub record IsRunOver (election : Election) (records words : List (List ℕ)) (command : Command) (files : Files)
    (taken taken_now : Taken) (held_now : Held) (answer : Answer) : Type 0 where
  pub left : List (List ℕ)
  pub holds : held_now ≡ Some left
  pub is_run : IsRun election records (record {
    words = words;
    command = command;
    files = files;
    taken = taken;
    taken_now = taken_now;
    left = left;
    answer = answer;
  })

-- runs for one election, one after another: each over the records that the one before left
abbrev pub AreRuns : Election → List (List ℕ) → List Run → List (List ℕ) → Type 0
AreRuns election records [] left = left ≡ records
AreRuns election records (one ∷ runs) left = IsRun election records one × AreRuns election one.left runs left

-- any list of runs for one election that began without a record leaves a journal of it
abbrev pub RunsLeaveJournals : Type 0
RunsLeaveJournals =
    (election : Election) (runs : List Run) (left : List (List ℕ)) → AreRuns election [] runs left → IsJournal election left

-- records are a journal of an election that keeps these events, and perhaps more behind them
pub record KeepsMore (election : Election) (events : List Event) (records : List (List ℕ)) : Type 0 where
  pub more : List Event
  pub keeps : replay_of election records ≡ Ok (events ++ more)

-- runs over a journal leave one that keeps the events that it kept, and perhaps more behind them
abbrev pub RunsKeepEvents : Type 0
RunsKeepEvents =
    (election : Election) (records : List (List ℕ)) (runs : List Run) (left : List (List ℕ)) (events : List Event)
    → replay_of election records ≡ Ok events → AreRuns election records runs left → KeepsMore election events left

-- A run over a journal that keeps some events has appended exactly the records of its command's acts, and the journal keeps
-- further events behind those that it kept, whose records these are: none else is there.
pub record KeepsItsActs (election : Election) (records : List (List ℕ)) (events : List Event) (one : Run) : Type 0 where
  pub appended : one.left ≡ records ++ flat_map records_of (outcome_of one.command one.files records).acts
  pub further : List Event
  pub keeps : replay_of election one.left ≡ Ok (events ++ further)
  pub are_records : AreRecordsOf election (events ++ further) one.left

-- so it is of each run of a command of `run` that ended well: of a `count` or a `decide` these are the sheets and the lines
-- that were accepted, in order
abbrev pub EndedRunsKeepTheirActs : Type 0
EndedRunsKeepTheirActs =
    (election : Election) (records : List (List ℕ)) (events : List Event) (one : Run)
    → replay_of election records ≡ Ok events → IsRun election records one → is_run one.command ≡ true
    → one.answer ≡ Ok tt → KeepsItsActs election records events one

-- records with perhaps more behind them
pub record AddsRecords (records left : List (List ℕ)) : Type 0 where
  pub more : List (List ℕ)
  pub are : left ≡ records ++ more

-- runs leave the records that were there, and perhaps more behind them
abbrev pub RunsAddRecords : Type 0
RunsAddRecords =
    (election : Election) (records : List (List ℕ)) (runs : List Run) (left : List (List ℕ))
    → AreRuns election records runs left → AddsRecords records left
