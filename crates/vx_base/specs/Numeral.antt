-- Numbers in their one spelling.
use Rattle.std.specs.Prelude.{◌≡◌, ◌<◌, ◌≤◌, ℕ, List, length, slice_index}

-- a text starts with a digit, and with `0` only where that is all
pub record StartsNumeral (text : List ℕ) : Type 0 where
  pub some : 0 < length text
  pub low : 48 ≤ slice_index text 0
  pub high : slice_index text 0 ≤ 57
  pub no_zero : slice_index text 0 ≡ 48 → length text ≡ 1
