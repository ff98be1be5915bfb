-- What taking an input whole may answer.
use Rattle.std.specs.Prelude.{◌≡◌, ◌<◌, ◌≤◌, ℕ, Bool, true, false, List, length, Option, None, Some, Result, Ok, Err, IsSomeAnd}
use Rattle.vx_io.specs.declared.taking.TakeFault.{TakeFault}
use Rattle.vx_io.specs.declared.taking.TakeFault.TheVariants.{Failed, NoInput, TooLong, OutOfMemory}

-- the answer is a fault of the inputs
abbrev pub take_failed : {T : Type 0} → Result T TakeFault → Bool
take_failed (Ok x) = false
take_failed (Err Failed) = true
take_failed (Err NoInput) = false
take_failed (Err (TooLong size)) = false
take_failed (Err OutOfMemory) = false

-- an answer that fits what is held under the name, and the limit
abbrev pub Takes : Option (List ℕ) → ℕ → Result (List ℕ) TakeFault → Type 0
Takes file limit (Ok bytes) = (file ≡ Some bytes) × (length bytes ≤ limit)
Takes file limit (Err NoInput) = file ≡ None
Takes file limit (Err (TooLong size)) = IsSomeAnd file (λ bytes. length bytes ≡ size) × (limit < size)
Takes file limit (Err OutOfMemory) = IsSomeAnd file (λ bytes. length bytes ≤ limit)
Takes file limit (Err Failed) = Unit {0}

-- an answer on the right side of the limit, whatever is told
abbrev pub IsWithin : ℕ → Result (List ℕ) TakeFault → Type 0
IsWithin limit (Ok bytes) = length bytes ≤ limit
IsWithin limit (Err (TooLong size)) = limit < size
IsWithin limit (Err NoInput) = Unit {0}
IsWithin limit (Err OutOfMemory) = Unit {0}
IsWithin limit (Err Failed) = Unit {0}
