-- Numbers in words, each in the one spelling in which it is written.
use Rattle.std.specs.Prelude.{ℕ, zero, suc, ◌^◌, ◌==◌, nat_lt, if◌then◌else◌, ℤ, pos, negsuc, List, [], ◌∷◌, Option, Some, None}
use Rattle.std.specs.Fmt.{decimal}
use Rattle.std.specs.Str.{bytes_eq}

-- the number below a bound that a word spells
unfoldable pub number_below : ℕ → List ℕ → Option ℕ
number_below zero word = None
number_below (suc n) word = if bytes_eq (decimal n) word then Some n else number_below n word

-- the number of 32 bits that a word spells
unfoldable pub number_in : List ℕ → Option ℕ
number_in word = number_below (2 ^ 32) word

-- a number behind a minus, of 32 bits with the sign; `-0` is none
abbrev pub negative_of : Option ℕ → Option ℤ
negative_of None = None
negative_of (Some zero) = None
negative_of (Some (suc n)) = if nat_lt n (2 ^ 31) then Some (negsuc n) else None

-- a number without a sign, of 32 bits with one
abbrev pub positive_of : Option ℕ → Option ℤ
positive_of None = None
positive_of (Some n) = if nat_lt n (2 ^ 31) then Some (pos n) else None

-- the number of 32 bits with a sign that a word spells
unfoldable pub signed_in : List ℕ → Option ℤ
signed_in [] = None
signed_in (byte ∷ digits) =
    if byte == 45 then negative_of (number_in digits) else positive_of (number_in (byte ∷ digits))
