-- The header of a raw grayscale image, after netpbm's PGM format. Gaps, numbers and spaces are those of a
-- bitmap's header. Offsets in a text are counted from 0.
use Rattle.std.specs.Prelude.{ℕ, ◌<◌, ◌≤◌, List, length, Result, Ok}
use Rattle.vx_base.specs.Results.{◌>>=◌}
use Rattle.vx_pbm.specs.Header.{gap_at, number_at, space_at}
use Rattle.vx_gray.specs.declared.header.Header.{Header}

-- the header of a text that begins with a magic of two bytes: a gap, the width, a gap, the height, a gap, the
-- greatest value and one whitespace byte; or the first offset that no header has
unfoldable pub header_at : List ℕ → Result Header ℕ
header_at text = do
  at ← gap_at text 2
  width ← number_at text at
  at ← gap_at text width.1
  height ← number_at text at
  at ← gap_at text height.1
  maxval ← number_at text at
  size ← space_at text maxval.1
  Ok (record { width = width.0; height = height.0; maxval = maxval.0; size = size })

-- what a header of a text keeps to: it ends within the text, and its sides are above 0
pub record IsHeader (text : List ℕ) (header : Header) : Type 0 where
  pub within : header.size ≤ length text
  pub width : 0 < header.width
  pub height : 0 < header.height
