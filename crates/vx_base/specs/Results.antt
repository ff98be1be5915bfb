-- Results, one after another.
use Rattle.std.specs.Prelude.{Result, Ok, Err}

-- what is done with a value that was given; the first refusal is the answer
infixl 10 ◌>>=◌
abbrev pub ◌>>=◌ : {A B F : Type 0} → Result A F → (A → Result B F) → Result B F
(Ok x) >>= f = f x
(Err e) >>= f = Err e
