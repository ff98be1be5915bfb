-- How far `read` has come behind one scan.
use Rattle.std.specs.Prelude.{◌≡◌, ℕ, ◌+◌, ◌∷◌, List, length, Result, Ok, Err}
use Rattle.vx_election_model.specs.declared.election.Election.{Election}
use Rattle.vx_io.specs.Outside.{Files}
use Rattle.vx_pbm.specs.Images.{Images}
use Rattle.vx_command.specs.declared.halt.Halt.{Halt}
use Rattle.vx_command.specs.Acts.{Outcome}
use Rattle.vx_command.specs.Done.{Taken, IsWritten, WritesTo}
use Rattle.vx_command_read.specs.Outcome.{scan_outcome, scans_outcome}

-- the images of a scan were read up to the next number, and the command has come to what comes next; or it halts
abbrev pub ReadsScan : Election → ℕ → ℕ → Images → Taken → Taken → Result ℕ Halt → Type 0
ReadsScan election word number images taken taken_now (Ok next) =
    (next ≡ number + length images.pages)
    × ((rest : Outcome) → WritesTo (scan_outcome election word number images rest) rest taken taken_now)
ReadsScan election word number images taken taken_now (Err cause) =
    (rest : Outcome) → IsWritten (scan_outcome election word number images rest) taken taken_now (Err cause)

-- the first of some scans was taken and read, and the others are left; or the command halts
abbrev pub ReadsFirst : Election → Files → ℕ → ℕ → List ℕ → Taken → Taken → Result ℕ Halt → Type 0
ReadsFirst election files word number name taken taken_now (Ok next) =
    (names : List (List ℕ)) → WritesTo (scans_outcome election files word number (name ∷ names))
    (scans_outcome election files (word + 1) next names) taken taken_now
ReadsFirst election files word number name taken taken_now (Err cause) =
    (names : List (List ℕ)) → IsWritten (scans_outcome election files word number (name ∷ names)) taken taken_now (Err cause)
