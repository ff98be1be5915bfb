-- Seeds and sizes of a sample, and limits of risk, as words: what an audit draws by, and what it allows.
use Rattle.std.specs.Prelude.{ℕ, ◌≡◌, ◌≤◌, ◌&&◌, ◌||◌, Bool, true, List, [], nat_le, Result, Ok, Err}
use Rattle.std.specs.Fmt.{decimal}
use Rattle.std.specs.List.{list_all}
use Rattle.hex.specs.Hex.{decode_sized}
use Rattle.hex.specs.declared.error.FromHexError.{FromHexError}

-- a hexadecimal digit, in lower case
abbrev pub is_lower_digit : ℕ → Bool
is_lower_digit byte = nat_le 48 byte && nat_le byte 57 || nat_le 97 byte && nat_le byte 102

-- 64 of them, as the 32 bytes that they are
pub record IsSeed (word seed : List ℕ) : Type 0 where
  pub digits : decode_sized word 32 ≡ Ok seed
  pub lower : list_all is_lower_digit word ≡ true

-- the bytes that a seed's word is
abbrev pub decoded : Result (List ℕ) FromHexError → List ℕ
decoded (Ok bytes) = bytes
decoded (Err fault) = []

abbrev pub seed_bytes : List ℕ → List ℕ
seed_bytes word = decoded (decode_sized word 32)

-- 1 to 10,000, without a sign and without a leading zero
pub record IsSize (word : List ℕ) (size : ℕ) : Type 0 where
  pub digits : word ≡ decimal size
  pub some : 1 ≤ size
  pub few : size ≤ 10000

-- thousandths: 1 to 999, without a sign and without a leading zero
pub record IsLimit (word : List ℕ) (limit : ℕ) : Type 0 where
  pub digits : word ≡ decimal limit
  pub some : 1 ≤ limit
  pub few : limit ≤ 999
