-- The timing marks of a page as a set of pixels, and where a slant takes them.
use Rattle.std.specs.Prelude.{◌≡◌, ◌⊎◌, ◌≤◌, ℕ, true, ℤ, pos, ◌+ℤ◌, ◌-ℤ◌, ◌≤ℤ◌, ◌<ℤ◌}
use Rattle.vx_plane.specs.Plane.{Pixels}
use Rattle.vx_grid.specs.declared.paper.Paper.{Paper}
use Rattle.vx_grid.specs.declared.places.Point.{Point}
use Rattle.vx_grid.specs.Paper.{last_row}
use Rattle.vx_grid.specs.Grid.{last_column, x_of, y_of}
use Rattle.vx_grid.specs.Marks.{mark_of}
use Rattle.vx_grid.specs.Places.{IsWithin}
use Rattle.vx_grid.specs.Sizes.{mark}
use Rattle.vx_geom.specs.Slants.{Slant, to_scan_of}

-- a grid point where a timing mark stands
pub record IsBorderPoint (paper : Paper) (c r : ℕ) : Type 0 where
  pub column : c ≤ last_column
  pub row : r ≤ last_row paper
  pub side : (r ≡ 0) ⊎ (r ≡ last_row paper) ⊎ (c ≡ 0) ⊎ (c ≡ last_column)

-- a pixel of the timing mark at a grid point
pub record IsInMark (paper : Paper) (c r : ℕ) (x y : ℤ) : Type 0 where
  pub left : (pos (x_of c) -ℤ pos mark.across) ≤ℤ x
  pub right : x <ℤ (pos (x_of c) +ℤ pos mark.across)
  pub top : (pos (y_of paper r) -ℤ pos mark.down) ≤ℤ y
  pub bottom : y <ℤ (pos (y_of paper r) +ℤ pos mark.down)

-- a set of pixels is that of all timing marks
pub record AreMarks (paper : Paper) (marks : Pixels) : Type 0 where
  pub dark : (c r : ℕ) (x y : ℤ) → IsBorderPoint paper c r → IsInMark paper c r x y → marks x y ≡ true
  pub some : (x y : ℤ) → marks x y ≡ true → (c : ℕ) × (r : ℕ) × IsBorderPoint paper c r × IsInMark paper c r x y

-- where a slant takes the centre of a grid point
abbrev pub image_of : Slant → Paper → ℕ → ℕ → Point
image_of s paper c r = to_scan_of s (record { u = pos (x_of c); v = pos (y_of paper r) })

-- where a slant takes the centre of a timing mark
abbrev pub mark_image : Slant → Paper → ℕ → Point
mark_image s paper k = image_of s paper (mark_of (last_row paper) k).0 (mark_of (last_row paper) k).1

-- a place within n columns and m rows of another
pub record LiesNear (n m : ℕ) (p q : Point) : Type 0 where
  pub across : IsWithin n (p.u -ℤ q.u)
  pub down : IsWithin m (p.v -ℤ q.v)

-- a place belongs to a timing mark: it lies within 4 columns and 2 rows of the image of its centre
pub record Belongs (s : Slant) (paper : Paper) (p : Point) : Type 0 where
  pub c : ℕ
  pub r : ℕ
  pub point : IsBorderPoint paper c r
  pub near : LiesNear 4 2 p (image_of s paper c r)
