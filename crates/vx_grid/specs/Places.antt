-- Places of a scan, and the windows where what was printed is looked for.
use Rattle.std.specs.Prelude.{◌≡◌, ℕ, ◌+◌, ℤ, pos, ◌+ℤ◌, ◌-ℤ◌, ◌≤ℤ◌, List, Some, slice_get, slice_index_or}
use Rattle.vx_grid.specs.declared.places.Point.{Point}
use Rattle.vx_grid.specs.declared.places.Rect.{Rect}
use Rattle.vx_grid.specs.declared.sizes.HalfSides.{HalfSides}
use Rattle.vx_grid.specs.Sizes.{bubble, code_box, window_of}

-- the point of a column and a row; every point is that of its own two
abbrev pub point_of : ℤ → ℤ → Point
point_of u v = record { u = u; v = v }

-- a whole number from -n to n
pub record IsWithin (n : ℕ) (z : ℤ) : Type 0 where
  pub low : pos 0 ≤ℤ (z +ℤ pos n)
  pub high : z ≤ℤ pos n

-- the rectangle of such a size round a place
abbrev pub rect_round : HalfSides → Point → Rect
rect_round half p = record {
  left = p.u -ℤ pos half.across;
  top = p.v -ℤ pos half.down;
  width = half.across + half.across;
  height = half.down + half.down;
}

-- where a bubble that was printed round a place is looked for
abbrev pub bubble_window_of : Point → Rect
bubble_window_of p = rect_round (window_of bubble) p

-- where a box of the page code that was printed round a place is looked for
abbrev pub code_window_of : Point → Rect
code_window_of p = rect_round (window_of code_box) p

-- a point within n of the origin in both coordinates
pub record IsPointWithin (n : ℕ) (p : Point) : Type 0 where
  pub u : IsWithin n p.u
  pub v : IsWithin n p.v

-- every point of a list lies within n of the origin
abbrev pub AreWithin : ℕ → List Point → Type 0
AreWithin n places = (k : ℕ) (p : Point) → slice_get places k ≡ Some p → IsPointWithin n p

-- the point at an index of a list
abbrev pub point_at : List Point → ℕ → Point
point_at places k = slice_index_or places k (record { u = pos 0; v = pos 0 })
