-- What a call answers: what its definition says, unless memory ran out.
use Rattle.std.specs.Prelude.{◌≡◌, Bool, true, false, Result, Ok, Err}

-- a claim, unless something else is so
abbrev pub Unless : Bool → Type 0 → Type 0
Unless true claim = Unit {0}
Unless false claim = claim

-- a call answers what its definition says, or a refusal that is want of memory
abbrev pub Gives : {A F : Type 0} → (F → Bool) → Result A F → Result A F → Type 0
Gives is_no_memory (Ok given) defined = defined ≡ Ok given
Gives is_no_memory (Err refusal) defined = Unless (is_no_memory refusal) (defined ≡ Err refusal)

-- the same where what is given is seen as another value, such as what it lends
abbrev pub GivesAs : {A B F : Type 0} → (A → B) → (F → Bool) → Result A F → Result B F → Type 0
GivesAs view is_no_memory (Ok given) defined = defined ≡ Ok (view given)
GivesAs view is_no_memory (Err refusal) defined = Unless (is_no_memory refusal) (defined ≡ Err refusal)
