-- Grayscale pages, and the bits of them. The rule is this project's own: the light may fall unevenly, so each
-- pixel is held against the lightest one near it.
use Rattle.std.specs.Prelude.{ℕ, zero, suc, ◌+◌, ◌-◌, ◌*◌, ◌/◌, ◌&&◌, nat_lt, max, List, false, pos, slice_index, if◌then◌else◌}
use Rattle.vx_plane.specs.Plane.{Pixels, Page, page_of}

-- a grayscale page: its frame, and the values of its pixels row by row from the top, 0 for black
pub record Gray : Type 0 where
  pub width : ℕ
  pub height : ℕ
  pub values : List ℕ

-- the value of the pixel in a column and a row; outside the frame it is 0
abbrev pub value_at : Gray → ℕ → ℕ → ℕ
value_at gray u v =
    if nat_lt u gray.width && nat_lt v gray.height then slice_index gray.values (v * gray.width + u) else 0

-- Tiles are the parts of the frame of 64 by 64 pixels from its top left corner on, cut at its right and lower
-- edge. They are numbered across and down from 0.

-- the tile of a column among those across, or of a row among those down
abbrev pub tile_of : ℕ → ℕ
tile_of place = place / 64

-- the first column of a tile and its neighbours across, or their first row
abbrev pub near_start : ℕ → ℕ
near_start tile = 64 * (tile - 1)

-- how many columns they have, or rows, where the frame doesn't cut them
abbrev pub near_size : ℕ → ℕ
near_size tile = 64 * (tile + 2) - near_start tile

-- the greatest of the first n numbers of a family, 0 where there are none
abbrev pub greatest : ℕ → (ℕ → ℕ) → ℕ
greatest zero family = 0
greatest (suc n) family = max (greatest n family) (family n)

-- the greatest value in a column of the page, of so many rows from a first one on
abbrev pub column_top : Gray → ℕ → ℕ → ℕ → ℕ
column_top gray first rows u = greatest rows (λ j. value_at gray u (first + j))

-- the greatest value of a tile and its neighbours, at most nine tiles
unfoldable pub top_of : Gray → ℕ → ℕ → ℕ
top_of gray across down =
    greatest (near_size across) (λ i. column_top gray (near_start down) (near_size down) (near_start across + i))

-- the dark places: there twice the value is less than the greatest value of the place's tile and its neighbours
abbrev pub dark_in : Gray → Pixels
dark_in gray (pos u) (pos v) = nat_lt (2 * value_at gray u v) (top_of gray (tile_of u) (tile_of v))
dark_in gray u v = false

-- the bits of a grayscale page
abbrev pub bits_of : Gray → Page
bits_of gray = page_of gray.width gray.height (dark_in gray)
