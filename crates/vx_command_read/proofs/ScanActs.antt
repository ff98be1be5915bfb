-- Scans that are read one after another.
use Rattle.std.proofs.Common.{◌≡◌, ◌+◌, ℕ, List, length, Result, Ok, Err, subst}
use Rattle.vx_election_model.specs.declared.election.Election.{Election}
use Rattle.vx_io.specs.Outside.{Files}
use Rattle.vx_pbm.specs.Images.{images_of}
use Rattle.vx_command.specs.declared.halt.Halt.{Halt}
use Rattle.vx_command.specs.Acts.{Outcome, input_of, input_limit}
use Rattle.vx_command.specs.Done.{Taken, IsDone}
use Rattle.vx_command.specs.Laws.{StepLaws}
use Rattle.vx_command.specs.Steps.{GivesTaking}
use Rattle.vx_command_read.specs.Outcome.{scan_outcome, scans_outcome}
use Rattle.vx_command_read.specs.Scans.{ReadsScan, ReadsFirst}

-- what follows once the scan of a word is taken
abbrev scan_rest : Election → Files → ℕ → ℕ → List (List ℕ) → List ℕ → Outcome
scan_rest election files word number names bytes =
    scan_outcome election word number (images_of bytes) (scans_outcome election files (word + 1) (number + length (images_of bytes).pages) names)

module _ (laws : StepLaws (List ℕ)) (election : Election) (files : Files) (word number : ℕ) (name : List ℕ) (a b : Taken) where
  -- a scan that wasn't taken
  pub scan_missing : (cause : Halt) → GivesTaking word (Err cause) (input_of word input_limit (files name)) → ReadsFirst election files word number name a a (Err cause)
  scan_missing cause gives names =
      laws.not_taken word (input_of word input_limit (files name)) cause (scan_rest election files word number names) a gives

  -- one that was taken, as far as its images were read
  pub scan_taken : (bytes : List ℕ) → input_of word input_limit (files name) ≡ Ok bytes → (result : Result ℕ Halt) → ReadsScan election word number (images_of bytes) a b result → ReadsFirst election files word number name a b result
  scan_taken bytes given (Err cause) reads = λ names held.
      laws.taken word (input_of word input_limit (files name)) bytes (scan_rest election files word number names) a given held b held (Err cause)
      (reads (scans_outcome election files (word + 1) (number + length (images_of bytes).pages) names) held)
  scan_taken bytes given (Ok next) reads = λ names held taken_then held_then answer done.
      let Done : ℕ → Type 0 = λ n. IsDone (scans_outcome election files (word + 1) n names) b taken_then held held_then answer in
      laws.taken word (input_of word input_limit (files name)) bytes (scan_rest election files word number names) a given held taken_then held_then answer
      (reads.1 (scans_outcome election files (word + 1) (number + length (images_of bytes).pages) names) held taken_then held_then answer (subst Done reads.0 done))
