-- Scans that are taken and counted one after another.
use Rattle.std.proofs.Common.{◌≡◌, ◌+◌, ℕ, List, Result, Ok, Err}
use Rattle.vx_plane.specs.Plane.{Page}
use Rattle.vx_election_model.specs.declared.election.Election.{Election}
use Rattle.vx_io.specs.Outside.{Files}
use Rattle.vx_pbm.specs.Images.{images_of}
use Rattle.vx_command.specs.declared.halt.Halt.{Halt}
use Rattle.vx_command.specs.Acts.{Outcome, input_of, input_limit}
use Rattle.vx_command.specs.Done.{Taken, Held}
use Rattle.vx_command.specs.Laws.{StepLaws}
use Rattle.vx_command.specs.Steps.{GivesTaking}
use Rattle.vx_command_count.specs.declared.counting.Counting.{Counting}
use Rattle.vx_command_count.specs.Outcome.{scan_outcome, scans_outcome}
use Rattle.vx_command_count.specs.Steps.{CountsFirst, CountsScan}

-- what follows once the scan of a word is taken
abbrev scan_rest : Election → List ℕ → Files → ℕ → Counting → List Page → List (List ℕ) → List ℕ → Outcome
scan_rest election batch files word old waiting names bytes =
    scan_outcome election batch word old waiting (images_of bytes) (λ now left. scans_outcome election batch files (word + 1) now left names)

module _ (laws : StepLaws (List ℕ)) (election : Election) (batch : List ℕ) (files : Files) (word : ℕ) (old new : Counting) (waiting : List Page) (name : List ℕ) (a b : Taken) (h k : Held) where
  -- a scan that wasn't taken
  pub input_missing : (cause : Halt) → GivesTaking word (Err cause) (input_of word input_limit (files name)) → CountsFirst election batch files word old new waiting name a a h h (Err cause)
  input_missing cause gives names =
      laws.not_taken word (input_of word input_limit (files name)) cause (scan_rest election batch files word old waiting names) a gives h

  -- one that was taken, as far as its images were counted
  pub input_taken : (bytes : List ℕ) → input_of word input_limit (files name) ≡ Ok bytes → (result : Result (List Page) Halt) → CountsScan election batch word old new waiting (images_of bytes) a b h k result → CountsFirst election batch files word old new waiting name a b h k result
  input_taken bytes given (Err cause) counts = λ names.
      laws.taken word (input_of word input_limit (files name)) bytes (scan_rest election batch files word old waiting names) a given h b k (Err cause)
      (counts (λ now left. scans_outcome election batch files (word + 1) now left names))
  input_taken bytes given (Ok left) counts = λ names taken_then held_then answer done.
      laws.taken word (input_of word input_limit (files name)) bytes (scan_rest election batch files word old waiting names) a given h taken_then held_then answer
      (counts (λ now over. scans_outcome election batch files (word + 1) now over names) taken_then held_then answer done)
