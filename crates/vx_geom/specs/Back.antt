-- What the way back from the scan does to a small rectangle.
use Rattle.std.specs.Prelude.{◌≡◌, ◌≤◌, ℕ, true, ℤ, ◌+ℤ◌}
use Rattle.vx_plane.specs.Plane.{rectangle}
use Rattle.vx_geom.specs.Slants.{Slant, IsSlant, paper_row, paper_column}
use Rattle.vx_geom.specs.Laws.{IsOrNext}

-- what the way back does to a rectangle of the scan is a translation to which 0 or 1 is added in each coordinate
pub record IsNearlyMovedBack (s : Slant) (u v : ℤ) (m n : ℕ) : Type 0 where
  pub right : ℤ
  pub down : ℤ
  pub columns :
      (w z : ℤ) → rectangle u v m n w z ≡ true → IsOrNext (w +ℤ right) (paper_column s w z)
  pub rows :
      (w z : ℤ) → rectangle u v m n w z ≡ true → IsOrNext (z +ℤ down) (paper_row s w z)

-- so it is for each rectangle of at most 64 by 64 pixels of the scan
abbrev pub SlantsMoveBackNearlyAsAWhole : Type 0
SlantsMoveBackNearlyAsAWhole =
    (s : Slant) → IsSlant s → (u v : ℤ) (m n : ℕ) → m ≤ 64 → n ≤ 64 → IsNearlyMovedBack s u v m n
