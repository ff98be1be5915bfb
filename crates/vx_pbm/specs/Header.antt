-- The header of a bitmap, after netpbm's PBM format. Offsets in a text are counted from 0.
use Rattle.std.specs.Prelude.{ℕ, ◌+◌, ◌<◌, ◌≤◌, ◌==◌, ◌&&◌, ◌||◌, Bool, true, false, not, List, [], ◌∷◌, drop, take, length, nat_lt, nat_le, if◌then◌else◌, Result, Ok, Err}
use Rattle.std.specs.Char.{is_ascii_digit}
use Rattle.std.specs.Str.Parse.{digits_value}
use Rattle.vx_base.specs.Results.{◌>>=◌}
use Rattle.vx_pbm.specs.declared.header.Header.{Header}

-- whitespace: blank, TAB, LF, VT, FF and CR
abbrev pub is_space : ℕ → Bool
is_space byte = (byte == 32) || (nat_le 9 byte && nat_le byte 13)

-- what ends a comment: LF and CR
abbrev pub ends_comment : ℕ → Bool
ends_comment byte = (byte == 10) || (byte == 13)

-- the number of bytes of the whitespace and the comments that a text begins with, which may begin
-- within a comment; a comment goes from `#` to the next LF or CR, else to the end of the text
abbrev pub gap_size : Bool → List ℕ → ℕ
gap_size in_comment [] = 0
gap_size true (byte ∷ rest) = gap_size (not (ends_comment byte)) rest + 1
gap_size false (byte ∷ rest) =
    if is_space byte then gap_size false rest + 1
    else if byte == 35 then gap_size true rest + 1
    else 0

-- the number of decimal digits that a text begins with
abbrev pub digit_count : List ℕ → ℕ
digit_count [] = 0
digit_count (byte ∷ rest) = if is_ascii_digit byte then digit_count rest + 1 else 0

-- the number that these digits spell
abbrev pub first_number : List ℕ → ℕ
first_number text = digits_value 10 (take (digit_count text) text)

-- whether a text begins with whitespace
abbrev pub begins_with_space : List ℕ → Bool
begins_with_space [] = false
begins_with_space (byte ∷ rest) = is_space byte

-- Each part of a header at an offset of a text gives the offset behind it, or else the first offset
-- that no header has. A number comes with its offset.

-- one or more whitespace bytes and comments
unfoldable pub gap_at : List ℕ → ℕ → Result ℕ ℕ
gap_at text at = let size = gap_size false (drop at text) in if nat_lt 0 size then Ok (at + size) else Err at

-- a number above 0, of 1 to 9 digits
unfoldable pub number_at : List ℕ → ℕ → Result (ℕ × ℕ) ℕ
number_at text at =
    let count = digit_count (drop at text) in
    let number = first_number (drop at text) in
    if nat_lt 0 count && (nat_le count 9 && nat_lt 0 number) then Ok (number, at + count) else Err at

-- one whitespace byte
unfoldable pub space_at : List ℕ → ℕ → Result ℕ ℕ
space_at text at = if begins_with_space (drop at text) then Ok (at + 1) else Err at

-- the header of a text that begins with a magic of two bytes: a gap, the width, a gap, the height and
-- one whitespace byte; or the first offset that no header has
unfoldable pub header_at : List ℕ → Result Header ℕ
header_at text = do
  at ← gap_at text 2
  width ← number_at text at
  at ← gap_at text width.1
  height ← number_at text at
  size ← space_at text height.1
  Ok (record { width = width.0; height = height.0; size = size })

-- what a header of a text keeps to: it ends within the text, and its sides are above 0
pub record IsHeader (text : List ℕ) (header : Header) : Type 0 where
  pub within : header.size ≤ length text
  pub width : 0 < header.width
  pub height : 0 < header.height
