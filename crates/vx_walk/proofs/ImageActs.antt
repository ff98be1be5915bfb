-- An image that waits for its second, or is the second of one that waits.
use Rattle.std.proofs.Common.{ℕ, ◌+◌, Option, None, Some, Ok, Err}
use Rattle.vx_plane.specs.Plane.{Page}
use Rattle.vx_command.specs.declared.halt.Halt.{Halt}
use Rattle.vx_command.specs.Done.{Taken}
use Rattle.vx_walk.specs.declared.walked.Walked.{Walked}
use Rattle.vx_walk.specs.Steps.{WalksImage, WalksSheet}
use Rattle.vx_walk.specs.Walk.{SheetStep, with_images}

-- so many sheets, and what waits
abbrev pub walked_so : ℕ → Option Page → Walked
walked_so sheets waiting = record { sheets = sheets; waiting = waiting }

module _ (step : SheetStep) (sheets : ℕ) (first image : Page) (a b : Taken) where
  -- it is the second of a sheet, which was done
  pub image-pairs : WalksSheet (step (sheets + 1) first image) a b (Ok tt)
      → WalksImage step (walked_so sheets (Some first)) image a b (Ok (walked_so (sheets + 1) None))
  image-pairs walks = λ images rest. walks (with_images step (sheets + 1) images rest)

  -- or halts the command
  pub image-halts : (cause : Halt) → WalksSheet (step (sheets + 1) first image) a b (Err cause)
      → WalksImage step (walked_so sheets (Some first)) image a b (Err cause)
  image-halts cause walks = λ images rest. walks (with_images step (sheets + 1) images rest)
