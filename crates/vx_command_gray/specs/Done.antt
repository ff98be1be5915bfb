-- How far a `gray` has come.
use Rattle.std.specs.Prelude.{◌≡◌, ℕ, ◌+◌, ◌∷◌, List, Option, Some, None, Result, Ok, Err}
use Rattle.vx_gray.specs.declared.fault.PgmFault.{PgmFault}
use Rattle.vx_gray.specs.Images.{Images}
use Rattle.vx_io.specs.Outside.{Files}
use Rattle.vx_command.specs.declared.halt.Halt.{Halt}
use Rattle.vx_command.specs.Done.{Taken, IsWritten, WritesTo}
use Rattle.vx_command_gray.specs.declared.status.GrayStatus.{GrayStatus}
use Rattle.vx_command_gray.specs.declared.status.GrayStatus.TheVariants.{Pgm}
use Rattle.vx_command_gray.specs.Outcome.{GrayOutcome, as_command, ended, scan_outcome, scans_outcome}
use Rattle.vx_command_gray.specs.Status.{answer_of}

-- The acts are done up to some place, as those of a command are: all of them, and the status is the outcome's; or they
-- broke off there.
pub record IsGrayDone (outcome : GrayOutcome) (taken taken_now : Taken) (status : GrayStatus) : Type 0 where
  pub acts : IsWritten (as_command outcome) taken taken_now (answer_of status)
  pub ends : answer_of status ≡ Ok tt → status ≡ outcome.ends

-- a `gray` has come to the rest of its acts
pub record Comes (whole rest : GrayOutcome) (taken taken_now : Taken) : Type 0 where
  pub acts : WritesTo (as_command whole) (as_command rest) taken taken_now
  pub ends : whole.ends ≡ rest.ends

-- the images of a scan are written, up to a fault if there is one; or the call halts
abbrev pub WritesScan : ℕ → Images → Taken → Taken → Result (Option PgmFault) Halt → Type 0
WritesScan word images taken taken_now (Ok None) =
    (rest : GrayOutcome) → Comes (scan_outcome word images rest) rest taken taken_now
WritesScan word images taken taken_now (Ok (Some fault)) =
    (rest : GrayOutcome) → Comes (scan_outcome word images rest) (ended (Pgm word fault)) taken taken_now
WritesScan word images taken taken_now (Err cause) =
    (rest : GrayOutcome) → IsWritten (as_command (scan_outcome word images rest)) taken taken_now (Err cause)

-- the first of some scans was taken and written, up to a fault if there is one; or the call halts
abbrev pub WritesFirst : Files → ℕ → List ℕ → Taken → Taken → Result (Option PgmFault) Halt → Type 0
WritesFirst files word name taken taken_now (Ok None) =
    (names : List (List ℕ))
    → Comes (scans_outcome files word (name ∷ names)) (scans_outcome files (word + 1) names) taken taken_now
WritesFirst files word name taken taken_now (Ok (Some fault)) =
    (names : List (List ℕ)) → Comes (scans_outcome files word (name ∷ names)) (ended (Pgm word fault)) taken taken_now
WritesFirst files word name taken taken_now (Err cause) =
    (names : List (List ℕ)) → IsWritten (as_command (scans_outcome files word (name ∷ names))) taken taken_now (Err cause)
