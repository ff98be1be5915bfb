-- Regions of places: the columns and the rows from a first one to a last one.
use Rattle.std.specs.Prelude.{◌&&◌, Bool, ℤ, pos, ◌+ℤ◌, ◌-ℤ◌, ◌≤ℤ◌, int_le}
use Rattle.vx_grid.specs.declared.places.Point.{Point}
use Rattle.vx_grid.specs.declared.sizes.HalfSides.{HalfSides}

-- a region, by its first and last column and its first and last row
pub record Region : Type 0 where
  pub left : ℤ
  pub right : ℤ
  pub top : ℤ
  pub bottom : ℤ

-- a place lies in a region
pub record IsIn (region : Region) (p : Point) : Type 0 where
  pub left : region.left ≤ℤ p.u
  pub right : p.u ≤ℤ region.right
  pub top : region.top ≤ℤ p.v
  pub bottom : p.v ≤ℤ region.bottom

-- the same, as a test
abbrev pub is_in : Region → Point → Bool
is_in region p =
    (int_le region.left p.u && int_le p.u region.right) && (int_le region.top p.v && int_le p.v region.bottom)

-- the places within so many columns and rows of another
abbrev pub within : HalfSides → Point → Region
within reach p = record {
  left = p.u -ℤ pos reach.across;
  right = p.u +ℤ pos reach.across;
  top = p.v -ℤ pos reach.down;
  bottom = p.v +ℤ pos reach.down;
}
