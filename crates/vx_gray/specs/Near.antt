-- What is found of the tiles near a band: a row of tiles.
use Rattle.std.specs.Prelude.{◌≡◌, ◌<◌, ℕ, ◌+◌, ◌-◌, ◌*◌, ◌/◌, List, length, slice_index, max}
use Rattle.vx_gray.specs.declared.near.Tops.{Tops}
use Rattle.vx_gray.specs.Gray.{Gray, column_top, near_start, top_of}

-- each number is raised to the one at its place, where that is greater
abbrev pub IsRaised : List ℕ → List ℕ → List ℕ → Type 0
IsRaised old row new = (u : ℕ) → slice_index new u ≡ max (slice_index old u) (slice_index row u)

-- the greatest value of each column of a page, of so many rows from a first one on
pub record AreColumnTops (gray : Gray) (first rows : ℕ) (tops : List ℕ) : Type 0 where
  pub size : length tops ≡ gray.width
  pub values : (u : ℕ) → slice_index tops u ≡ column_top gray first rows u

-- half of the greatest value near each tile of a band, rounded up: what is less is dark
pub record AreHalves (gray : Gray) (down : ℕ) (halves : List ℕ) : Type 0 where
  pub size : length halves ≡ (gray.width + 63) / 64
  pub values : (across : ℕ) → across < length halves → slice_index halves across ≡ (top_of gray across down + 1) / 2

-- the greatest value of each column over the rows of the band above a band of tiles, if there is one, and over its own
pub record AreTopsAt (gray : Gray) (down : ℕ) (tops : Tops) : Type 0 where
  pub above : AreColumnTops gray (near_start down) (64 * down - near_start down) tops.above.items
  pub here : AreColumnTops gray (64 * down) 64 tops.here.items
