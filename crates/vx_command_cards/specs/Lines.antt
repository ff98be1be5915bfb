-- Lines of words, numbers in hexadecimal, and lines that a text and a count get.
use Rattle.std.specs.Prelude.{◌≡◌, ℕ, Bool, ◌+◌, ◌-◌, List, [], ◌∷◌, ◌++◌, length, replicate}
use Rattle.std.specs.Fmt.{digits}
use Rattle.std.specs.List.{flat_map, join_with_byte}

-- words with a blank between two of them
abbrev pub with_blanks : List (List ℕ) → List ℕ
with_blanks words = join_with_byte 32 words

-- the digits of a number in hexadecimal, four at least, with capital letters or small ones
unfoldable pub hexadecimal : Bool → ℕ → List ℕ
hexadecimal capital n = replicate (4 - length (digits 16 capital n)) 48 ++ digits 16 capital n

-- a line with its end
abbrev pub ended : List ℕ → List ℕ
ended line = line ++ 10 ∷ []

-- lines, each with its end
abbrev pub text_of : List (List ℕ) → List ℕ
text_of lines = flat_map ended lines

-- a text and a count got lines
pub record GotLines (lines : List (List ℕ)) (old new : List ℕ) (count count_now : ℕ) : Type 0 where
  pub got : new ≡ old ++ text_of lines
  pub counted : count_now ≡ count + length lines
