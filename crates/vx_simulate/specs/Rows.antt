-- How the rows of a scan come of the packed rows of its paper.
use Rattle.std.specs.Prelude.{◌≡◌, ◌<◌, ◌≤◌, ℕ, ◌+◌, ◌-◌, ◌*◌, ◌/◌, ◌%◌, List, [], ◌∷◌, ◌++◌, take, length, slice_index, slice_index_or, replicate, bit_and, ℤ, pos, ◌+ℤ◌, ◌-ℤ◌}
use Rattle.std.specs.Int.{bit_at}
use Rattle.vx_plane.specs.Plane.{Pixels, placed}
use Rattle.vx_bits.specs.Packed.{packed_pixel}
use Rattle.vx_geom.specs.Slants.{Slant, down_by, paper_column}
use Rattle.vx_margin.specs.Flips.{differ}
use Rattle.vx_simulate.specs.declared.strips.Strip.{Strip}

-- the paper with light margins, which hold all that a scan shows: 160 columns on the left, 136 rows above
abbrev pub in_margins : Pixels → Pixels
in_margins paper = placed (pos 160) (pos 136) paper

-- packed rows of 264 bytes each that hold a set's first rows
pub record HoldsRows (bytes : List ℕ) (set : Pixels) (rows : ℕ) : Type 0 where
  pub size : length bytes ≡ rows * 264
  pub pixels : (x y : ℕ) → x < 2112 → y < rows → packed_pixel bytes (y * 264) x ≡ set (pos x) (pos y)

-- the row that row 0 of the scan shows in pixel i of a strip
abbrev pub row_of : Strip → ℕ → ℕ
row_of strip i = strip.row + bit_at strip.bits (7 - i)

-- the row that row 0 of the scan shows in a column
abbrev pub row_in : List Strip → ℕ → ℕ
row_in strips x = row_of (slice_index_or strips (x / 8) (record { row = 0; bits = 0 })) (x % 8)

-- the row of the paper in its margins that row 0 of a scan shows in a column of them
abbrev pub shown : Slant → ℕ → ℤ
shown s x = pos 136 -ℤ down_by s (pos x -ℤ pos 160)

-- the greatest of the rows that are shown in eight columns
pub record IsGreatest (s : Slant) (k greatest : ℕ) : Type 0 where
  pub most : (i row : ℕ) → i < 8 → pos row ≡ shown s (8 * k + i) → row ≤ greatest
  pub one : (i : ℕ) × (i < 8) × (pos greatest ≡ shown s (8 * k + i))

-- the strips of all columns of the paper in its margins, as a slant shows them
pub record AreStrips (s : Slant) (strips : List Strip) : Type 0 where
  pub all : length strips ≡ 264
  pub rows : (x : ℕ) → x < 2112 → pos (row_in strips x) ≡ shown s x
  pub few : (x : ℕ) → x < 2112 → row_in strips x < 272

-- each pixel of a scan's row is changed where the paper's is dark that it shows
abbrev pub ShowsRow : Slant → List ℕ → List Strip → ℕ → List ℕ → List ℕ → Type 0
ShowsRow s rows strips v old new = (u x : ℕ) → u < 1800 → pos x ≡ pos 160 +ℤ paper_column s (pos u) (pos v)
    → packed_pixel new 0 u ≡ differ (packed_pixel old 0 u) (packed_pixel rows ((v + row_in strips x) * 264) x)

-- a packed row of the paper in its margins: 20 light bytes, the row without its padding, 31 light bytes
abbrev pub margined : List ℕ → List ℕ
margined row = ((replicate 20 0 ++ take 212 row) ++ bit_and (slice_index row 212) 240 ∷ []) ++ replicate 31 0
