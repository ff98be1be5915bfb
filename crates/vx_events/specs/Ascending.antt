-- Numbers in ascending order, none of them twice.
use Rattle.std.specs.Prelude.{ℕ, ◌+◌, ◌&&◌, Bool, true, List, [], ◌∷◌, nat_le}

-- the first number is at least so much, and each further one above the one before
abbrev pub ascends_from : ℕ → List ℕ → Bool
ascends_from least [] = true
ascends_from least (number ∷ numbers) = nat_le least number && ascends_from (number + 1) numbers

-- each number is above the one before
abbrev pub is_ascending : List ℕ → Bool
is_ascending numbers = ascends_from 0 numbers
