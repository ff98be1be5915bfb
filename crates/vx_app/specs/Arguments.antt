-- The words of a command among the program's arguments.
use Rattle.std.specs.Prelude.{◌≡◌, ◌⊎◌, ◌<◌, ◌≤◌, ℕ, List, drop, length, Result, Ok, Err}
use Rattle.std.specs.declared.io.ErrorKind.{ErrorKind}
use Rattle.std.specs.declared.io.ErrorKind.TheVariants.{InvalidData}
use Rattle.vx_command.specs.declared.status.Status.{Status}
use Rattle.vx_command.specs.declared.status.Status.TheVariants.{Usage, NoMemory}

-- The words stand behind the program's name and the journal's. Without a journal, or with more than a million words,
-- it is Usage.
abbrev pub IsCommandLine : List (List ℕ) → Result (List (List ℕ)) Status → Type 0
IsCommandLine arguments (Ok words) = (2 ≤ length arguments) × (words ≡ drop 2 arguments)
IsCommandLine arguments (Err Usage) = (length arguments < 2) ⊎ (1000002 < length arguments)
IsCommandLine arguments (Err NoMemory) = Unit {0}
IsCommandLine arguments (Err status) = ⊥

-- the status where the arguments can't be had: Usage where they aren't all UTF-8
abbrev pub status_without : ErrorKind → Status
status_without InvalidData = Usage
status_without kind = NoMemory
