-- One step of a reader.
use Rattle.std.specs.Prelude.{◌≡◌, ◌≤◌, List, ℕ, length, Option, Some, None, Result, Ok, Err}
use Rattle.vx_pbm.specs.declared.fault.PbmFault.{PbmFault}
use Rattle.vx_pbm.specs.declared.step.Step.{Step}
use Rattle.vx_pbm.specs.Images.{Unread, unread_from, next_of, Refuses}
use Rattle.vx_pbm.specs.Raster.{IsSized}

-- a step to the first image of what is unread
pub record StepsOver (bytes : List ℕ) (unread : Unread) (step : Step) : Type 0 where
  pub first : next_of unread ≡ Ok (Some (step.image, unread_from bytes step.at step.behind_plain))
  pub within : step.at ≤ length bytes
  pub sized : IsSized step.image.width step.image.height

-- what was found first in what is unread of the bytes
abbrev pub Finds : List ℕ → Unread → Result (Option Step) PbmFault → Type 0
Finds bytes unread (Ok (Some step)) = StepsOver bytes unread step
Finds bytes unread (Ok None) = next_of unread ≡ Ok None
Finds bytes unread (Err fault) = Refuses unread fault
