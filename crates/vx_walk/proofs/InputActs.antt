-- Scans that are taken and gone through one after another.
use Rattle.std.proofs.Common.{◌≡◌, ◌+◌, ℕ, List, Result, Ok, Err}
use Rattle.vx_plane.specs.Plane.{Page}
use Rattle.vx_io.specs.Outside.{Files}
use Rattle.vx_pbm.specs.Images.{images_of}
use Rattle.vx_command.specs.declared.halt.Halt.{Halt}
use Rattle.vx_command.specs.Acts.{Outcome, input_of, input_limit}
use Rattle.vx_command.specs.Done.{Taken}
use Rattle.vx_command.specs.Laws.{StepLaws}
use Rattle.vx_command.specs.Steps.{GivesTaking}
use Rattle.vx_walk.specs.declared.walked.Walked.{Walked}
use Rattle.vx_walk.specs.Walk.{SheetStep, scan_outcome, scans_outcome}
use Rattle.vx_walk.specs.Walked.{waits}
use Rattle.vx_walk.specs.Steps.{WalksFirst, WalksScan}

-- what follows once the scan of a word is taken
abbrev scan_rest : (List ℕ → SheetStep) → (ℕ → List Page → Outcome) → Files → ℕ → Walked → List ℕ → List (List ℕ) → List ℕ → Outcome
scan_rest step ending files word old name names bytes =
    scan_outcome (step name) word old.sheets (waits old.waiting) (images_of bytes) (λ now left. scans_outcome step ending files (word + 1) now left names)

module _ (laws : StepLaws (List ℕ)) (step : List ℕ → SheetStep) (ending : ℕ → List Page → Outcome) (files : Files) (word : ℕ) (old : Walked) (name : List ℕ) (a b : Taken) where
  -- a scan that wasn't taken
  pub input-missing : (cause : Halt) → GivesTaking word (Err cause) (input_of word input_limit (files name)) → WalksFirst step ending files word old name a a (Err cause)
  input-missing cause gives = λ names.
      laws.not_taken word (input_of word input_limit (files name)) cause (scan_rest step ending files word old name names) a gives

  -- one that was taken, as far as its images were gone through
  pub input-taken : (bytes : List ℕ) → input_of word input_limit (files name) ≡ Ok bytes → (result : Result Walked Halt)
      → WalksScan (step name) word old (images_of bytes) a b result → WalksFirst step ending files word old name a b result
  input-taken bytes given (Err cause) walks = λ names held.
      laws.taken word (input_of word input_limit (files name)) bytes (scan_rest step ending files word old name names) a given held b held (Err cause)
      (walks (λ now left. scans_outcome step ending files (word + 1) now left names) held)
  input-taken bytes given (Ok new) walks = λ names held taken_then held_then answer done.
      laws.taken word (input_of word input_limit (files name)) bytes (scan_rest step ending files word old name names) a given held taken_then held_then answer
      (walks (λ now left. scans_outcome step ending files (word + 1) now left names) held taken_then held_then answer done)
