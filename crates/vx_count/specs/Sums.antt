-- Sums of the dark pixels of a page's rows.
use Rattle.std.specs.Prelude.{◌≡◌, ◌<◌, ℕ, ◌+◌, ◌*◌, ◌/◌, List, length, pos, slice_index}
use Rattle.vx_plane.specs.Plane.{Page, dark_at}
use Rattle.vx_plane.specs.Count.{count_in}

-- how many sums a row of a page has: one at column 1024, one at 2048, and so on
abbrev pub blocks_of : Page → ℕ
blocks_of page = page.width / 1024

-- sum k of a row: its dark pixels before that column
abbrev pub sum_at : Page → ℕ → ℕ → ℕ
sum_at page row k = count_in (pos 0) (pos row) (1024 * (k + 1)) 1 (dark_at page)

-- numbers that begin with so many sums of a page, row by row
pub record BeginsWithSums (page : Page) (many : ℕ) (sums : List ℕ) : Type 0 where
  pub each : (row k : ℕ) → k < blocks_of page → row * blocks_of page + k < many →
      slice_index sums (row * blocks_of page + k) ≡ sum_at page row k

-- the sums of a page
pub record AreSums (page : Page) (sums : List ℕ) : Type 0 where
  pub size : length sums ≡ page.height * blocks_of page
  pub all : BeginsWithSums page (page.height * blocks_of page) sums
