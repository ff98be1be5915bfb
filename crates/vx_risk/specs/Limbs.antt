-- Whole numbers of any size.
use Rattle.std.specs.Prelude.{◌+◌, ◌*◌, ◌^◌, ℕ, List, [], ◌∷◌}

-- the number that digits of a base spell, the least digit first
abbrev pub number_in : ℕ → List ℕ → ℕ
number_in base [] = 0
number_in base (digit ∷ more) = digit + base * number_in base more

-- the number that limbs of 64 bits spell
abbrev pub number_of : List ℕ → ℕ
number_of limbs = number_in (2 ^ 64) limbs
