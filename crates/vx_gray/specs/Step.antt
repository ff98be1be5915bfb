-- One step of a reader.
use Rattle.std.specs.Prelude.{◌≡◌, ◌≤◌, List, ℕ, length, Option, Some, None, Result, Ok, Err}
use Rattle.vx_gray.specs.declared.fault.PgmFault.{PgmFault}
use Rattle.vx_gray.specs.declared.step.Step.{Step}
use Rattle.vx_gray.specs.Images.{Unread, unread_from, next_of}

-- a step to the first image of what is unread
pub record StepsOver (bytes : List ℕ) (unread : Unread) (step : Step) : Type 0 where
  pub first : next_of unread ≡ Ok (Some (step.page, unread_from bytes step.at))
  pub within : step.at ≤ length bytes

-- what was found first in what is unread of the bytes
abbrev pub Finds : List ℕ → Unread → Result (Option Step) PgmFault → Type 0
Finds bytes unread (Ok (Some step)) = StepsOver bytes unread step
Finds bytes unread (Ok None) = next_of unread ≡ Ok None
Finds bytes unread (Err fault) = next_of unread ≡ Err fault
