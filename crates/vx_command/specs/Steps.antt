-- What a step of a command may answer: what its definition says, or that it broke off.
use Rattle.std.specs.Prelude.{◌≡◌, ◌⊎◌, ℕ, Bool, true, false, [], ◌∷◌, Result, Ok, Err}
use Rattle.vx_command.specs.declared.halt.Halt.{Halt}
use Rattle.vx_command.specs.declared.halt.Halt.TheVariants.{NoInput, TooLong, Election, Layout, ReadFault, NoMemory}
use Rattle.vx_command.specs.Acts.{Take}
use Rattle.vx_command.specs.Done.{BreaksAt}

-- want of memory
abbrev pub is_no_memory : Halt → Bool
is_no_memory NoMemory = true
is_no_memory cause = false

-- a step that takes the input of a word: it answers what its definition says, or it broke off at the taking
abbrev pub GivesTaking : {A : Type 0} → ℕ → Result A Halt → Result A Halt → Type 0
GivesTaking word (Ok given) defined = defined ≡ Ok given
GivesTaking word (Err cause) defined = (defined ≡ Err cause) ⊎ BreaksAt cause (Take word ∷ []) [] []

-- a halt that the taking of a word's input may answer
abbrev pub IsTakingHalt : ℕ → Halt → Type 0
IsTakingHalt word (NoInput other) = other ≡ word
IsTakingHalt word (TooLong other size) = other ≡ word
IsTakingHalt word ReadFault = Unit {0}
IsTakingHalt word NoMemory = Unit {0}
IsTakingHalt word cause = ⊥

-- a halt that the taking and reading of the election may answer
abbrev pub IsElectionHalt : Halt → Type 0
IsElectionHalt (Election fault) = Unit {0}
IsElectionHalt cause = IsTakingHalt 1 cause

-- a halt that the planning of cards may answer
abbrev pub IsPlanHalt : Halt → Type 0
IsPlanHalt (Layout card fault) = Unit {0}
IsPlanHalt NoMemory = Unit {0}
IsPlanHalt cause = ⊥
