-- How far a walk has come behind a sheet, an image, a scan.
use Rattle.std.specs.Prelude.{ℕ, ◌+◌, ◌++◌, ◌∷◌, List, Result, Ok, Err}
use Rattle.vx_plane.specs.Plane.{Page}
use Rattle.vx_io.specs.Outside.{Files}
use Rattle.vx_pbm.specs.Images.{Images}
use Rattle.vx_command.specs.declared.halt.Halt.{Halt}
use Rattle.vx_command.specs.Acts.{Answer, Outcome}
use Rattle.vx_command.specs.Done.{Taken, IsWritten, WritesTo}
use Rattle.vx_walk.specs.declared.walked.Walked.{Walked}
use Rattle.vx_walk.specs.Walk.{SheetStep, scan_outcome, scans_outcome, with_images}
use Rattle.vx_walk.specs.Walked.{waits}

-- a sheet was gone over, and the command has come to what comes next; or it halts
abbrev pub WalksSheet : (Outcome → Outcome) → Taken → Taken → Answer → Type 0
WalksSheet sheet taken taken_now (Ok done) = (rest : Outcome) → WritesTo (sheet rest) rest taken taken_now
WalksSheet sheet taken taken_now (Err cause) = (rest : Outcome) → IsWritten (sheet rest) taken taken_now (Err cause)

-- the next image was gone over, and the command has come to those behind it; or it halts
abbrev pub WalksImage : SheetStep → Walked → Page → Taken → Taken → Result Walked Halt → Type 0
WalksImage step old image taken taken_now (Ok new) =
    (images : List Page) (rest : ℕ → List Page → Outcome)
    → WritesTo (with_images step old.sheets (waits old.waiting ++ image ∷ images) rest)
    (with_images step new.sheets (waits new.waiting ++ images) rest) taken taken_now
WalksImage step old image taken taken_now (Err cause) =
    (images : List Page) (rest : ℕ → List Page → Outcome)
    → IsWritten (with_images step old.sheets (waits old.waiting ++ image ∷ images) rest) taken taken_now (Err cause)

-- a scan was gone through, and an image may be left; or the command halts
abbrev pub WalksScan : SheetStep → ℕ → Walked → Images → Taken → Taken → Result Walked Halt → Type 0
WalksScan step word old images taken taken_now (Ok new) =
    (next : ℕ → List Page → Outcome)
    → WritesTo (scan_outcome step word old.sheets (waits old.waiting) images next)
    (next new.sheets (waits new.waiting)) taken taken_now
WalksScan step word old images taken taken_now (Err cause) =
    (next : ℕ → List Page → Outcome)
    → IsWritten (scan_outcome step word old.sheets (waits old.waiting) images next) taken taken_now (Err cause)

-- the first of some scans was taken and gone through, and the others are left; or the command halts
abbrev pub WalksFirst : (List ℕ → SheetStep) → (ℕ → List Page → Outcome) → Files → ℕ → Walked → List ℕ → Taken → Taken → Result Walked Halt → Type 0
WalksFirst step ending files word old name taken taken_now (Ok new) =
    (names : List (List ℕ))
    → WritesTo (scans_outcome step ending files word old.sheets (waits old.waiting) (name ∷ names))
    (scans_outcome step ending files (word + 1) new.sheets (waits new.waiting) names) taken taken_now
WalksFirst step ending files word old name taken taken_now (Err cause) =
    (names : List (List ℕ))
    → IsWritten (scans_outcome step ending files word old.sheets (waits old.waiting) (name ∷ names)) taken taken_now (Err cause)
