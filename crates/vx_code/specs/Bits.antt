-- Bits and numbers, the most significant bit first.
use Rattle.std.specs.Prelude.{ℕ, ◌+◌, ◌*◌, ◌^◌, ◌==◌, List, [], ◌∷◌, Bool, length, take, drop, zero, suc}
use Rattle.std.specs.Int.{bit_at, from_bool}
use Rattle.std.specs.List.{flat_map}

-- the lowest bits of a number, so many of them
unfoldable pub bits_of_number : ℕ → ℕ → List Bool
bits_of_number zero n = []
bits_of_number (suc width) n = (bit_at n width == 1) ∷ bits_of_number width n

-- the number of a list of bits
unfoldable pub number_of_bits : List Bool → ℕ
number_of_bits [] = 0
number_of_bits (bit ∷ rest) = from_bool bit * 2 ^ length rest + number_of_bits rest

-- the bits of fields, each a width and a value, one after the other
unfoldable pub bits_of_fields : List (ℕ × ℕ) → List Bool
bits_of_fields fields = flat_map (λ field. bits_of_number field.0 field.1) fields

-- the values that fields of these widths have in a list of bits
unfoldable pub values_of_bits : List ℕ → List Bool → List ℕ
values_of_bits [] bits = []
values_of_bits (width ∷ widths) bits = number_of_bits (take width bits) ∷ values_of_bits widths (drop width bits)
