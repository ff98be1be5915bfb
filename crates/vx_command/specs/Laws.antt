-- Laws for the proofs of commands: how they go from act to act, and what holds of the election that they take.
use Rattle.std.specs.Prelude.{◌≡◌, ℕ, List, [], Option, Result, Ok, Err}
use Rattle.vx_base.specs.Refusals.{Gives}
use Rattle.vx_election_model.specs.declared.election.Election.{Election}
use Rattle.vx_election_model.specs.Valid.{IsValid}
use Rattle.vx_command.specs.declared.halt.Halt.{Halt}
use Rattle.vx_command.specs.declared.halt.Halt.TheVariants.{NoMemory}
use Rattle.vx_command.specs.Acts.{Act, Answer, Outcome, work, after, goes_on, taking}
use Rattle.vx_command.specs.Done.{Taken, Held, IsDone, IsWritten, ComesTo, WritesTo}
use Rattle.vx_command.specs.Elections.{election_in}
use Rattle.vx_command.specs.Steps.{is_no_memory, GivesTaking}

-- acts, and then the rest of a command: where they are done, the command has come to the rest; where they broke off,
-- so did the command
pub record ActLaws : Type 0 where
  pub done : (acts : List Act) (rest : Outcome) (a b : Taken) (h k : Held) → IsDone (work acts) a b h k (Ok tt) → ComesTo (after acts rest) rest a b h k
  pub broken : (acts : List Act) (rest : Outcome) (a b : Taken) (h k : Held) (cause : Halt) → IsDone (work acts) a b h k (Err cause) → IsDone (after acts rest) a b h k (Err cause)
  -- a command that ends here is done, and memory may run out before any act
  pub ended : (ends : Answer) (a : Taken) (h : Held) → IsDone (record { acts = []; ends = ends }) a a h h ends
  pub no_memory : (outcome : Outcome) (a : Taken) (h : Held) → IsDone outcome a a h h (Err NoMemory)

-- a step that answers what its definition says, or broke off, and then the rest of a command: where it took an input,
-- the command has come to what it does with what was given; where it didn't, the command halts so
pub record StepLaws (A : Type 0) : Type 0 where
  pub taken : (word : ℕ) (defined : Result A Halt) (given : A) (rest : A → Outcome) (a : Taken) → defined ≡ Ok given → WritesTo (taking word defined rest) (rest given) a a
  pub not_taken : (word : ℕ) (defined : Result A Halt) (cause : Halt) (rest : A → Outcome) (a : Taken) → GivesTaking word (Err cause) defined → IsWritten (taking word defined rest) a a (Err cause)
  -- the same of a step that takes nothing
  pub given : (defined : Result A Halt) (given : A) (rest : A → Outcome) (a : Taken) → defined ≡ Ok given → WritesTo (goes_on defined rest) (rest given) a a
  pub not_given : (defined : Result A Halt) (cause : Halt) (rest : A → Outcome) (a : Taken) → Gives is_no_memory (Err cause) defined → IsWritten (goes_on defined rest) a a (Err cause)

-- the election that a command takes is valid
abbrev pub TakenElectionsAreValid : Type 0
TakenElectionsAreValid =
    (file : Option (List ℕ)) (election : Election) → election_in file ≡ Ok election → IsValid election
