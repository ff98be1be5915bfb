-- How a keeper in memory answers.
use Rattle.std.specs.Prelude.{◌≡◌, ◌++◌, ◌∷◌, [], ℕ, Bool, true, false, List, Option, Result, Ok, Err, MatchOption}
use Rattle.vx_io.specs.declared.outside.KeeperError.{KeeperError}
use Rattle.vx_io.specs.declared.outside.KeeperError.TheVariants.{Failed, OutOfMemory}

-- the answer is a fault
abbrev pub has_failed : {T : Type 0} → Result T KeeperError → Bool
has_failed (Ok x) = false
has_failed (Err Failed) = true
has_failed (Err OutOfMemory) = false

-- a listed append is a fault, and keeps the record where the list says so and there is memory for it
abbrev pub FailsKeeping : Bool → List (List ℕ) → List (List ℕ) → List ℕ → Result (Unit {0}) KeeperError → Type 0
FailsKeeping false old new body result = (result ≡ Err Failed) × (new ≡ old)
FailsKeeping true old new body (Ok x) = ⊥
FailsKeeping true old new body (Err Failed) = new ≡ old ++ body ∷ []
FailsKeeping true old new body (Err OutOfMemory) = new ≡ old

-- any other append adds the record, or nothing for want of memory
abbrev pub Adds : List (List ℕ) → List (List ℕ) → List ℕ → Result (Unit {0}) KeeperError → Type 0
Adds old new body (Ok x) = new ≡ old ++ body ∷ []
Adds old new body (Err Failed) = ⊥
Adds old new body (Err OutOfMemory) = new ≡ old

-- an append, by what the list of failing calls says of it
abbrev pub Stores : Option Bool → List (List ℕ) → List (List ℕ) → List ℕ → Result (Unit {0}) KeeperError → Type 0
Stores listed old new body result =
    MatchOption listed (Adds old new body result) (λ kept. FailsKeeping kept old new body result)
