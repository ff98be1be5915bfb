-- Steps of a command that read its journal or append to it: what they may answer.
use Rattle.std.specs.Prelude.{◌≡◌, ◌⊎◌, ℕ, List, [], ◌∷◌, Result, Ok, Err}
use Rattle.vx_election_model.specs.declared.election.Election.{Election}
use Rattle.vx_command.specs.declared.halt.Halt.{Halt}
use Rattle.vx_command.specs.declared.halt.Halt.TheVariants as halt
use Rattle.vx_command.specs.Acts.{Act, ReadJournal, Answer, Outcome, after, goes_on, work}
use Rattle.vx_command.specs.Done.{Taken, Held, BreaksAt, IsDone}
use Rattle.vx_journal.specs.declared.journal.Journal.{Journal}
use Rattle.vx_journal.specs.Keeping.{journal_in}

-- a step that reads the journal: it answers what its definition says, or it broke off at the reading
abbrev pub GivesReading : {A : Type 0} → Result A Halt → Result A Halt → Type 0
GivesReading (Ok given) defined = defined ≡ Ok given
GivesReading (Err cause) defined = (defined ≡ Err cause) ⊎ BreaksAt cause (ReadJournal ∷ []) [] []

-- a halt that the reading of a journal may answer
abbrev pub IsReadingHalt : Halt → Type 0
IsReadingHalt (halt.Journal index stop) = Unit {0}
IsReadingHalt halt.KeeperFault = Unit {0}
IsReadingHalt halt.NoMemory = Unit {0}
IsReadingHalt cause = ⊥

-- a command that reads its journal and goes on with it
abbrev pub once_read : Election → List (List ℕ) → (Journal → Outcome) → Outcome
once_read election records rest = after (ReadJournal ∷ []) (goes_on (journal_in election records) rest)

-- whether a step did its work, whatever it gives
abbrev pub answer_of : {A : Type 0} → Result A Halt → Answer
answer_of (Ok given) = Ok tt
answer_of (Err cause) = Err cause

-- the acts of a step that has no act of the sink: whatever a sink has taken, it has taken still
abbrev pub IsRecorded : List Act → Held → Held → Answer → Type 0
IsRecorded acts held held_now answer = (taken : Taken) → IsDone (work acts) taken taken held held_now answer
