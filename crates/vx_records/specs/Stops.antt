-- What a call answers where nothing is read.
use Rattle.std.specs.Prelude.{◌≡◌, List, ℕ, Err}
use Rattle.vx_records.specs.declared.parts.Stop.{Stop}
use Rattle.vx_records.specs.declared.parts.Stop.TheVariants.{Left, NoMemory}
use Rattle.vx_records.specs.Parts.{Read}

-- what is defined to be read is nothing, with so many bytes left; or memory ran out
abbrev pub Stops : {A : Type 0} → Stop → Read A → Type 0
Stops (Left left) defined = defined ≡ Err left
Stops NoMemory defined = Unit {0}
