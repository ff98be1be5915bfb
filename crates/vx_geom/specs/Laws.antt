-- What holds of every slant.
use Rattle.std.specs.Prelude.{◌≡◌, ◌⊎◌, ◌≤◌, ℕ, ◌*◌, true, ℤ, pos, ◌+ℤ◌, ◌-ℤ◌}
use Rattle.vx_plane.specs.Plane.{Pixels, rectangle}
use Rattle.vx_plane.specs.Count.{count_in}
use Rattle.vx_grid.specs.declared.places.Point.{Point}
use Rattle.vx_grid.specs.Places.{IsWithin}
use Rattle.vx_geom.specs.Slants.{Slant, IsSlant, down_by, right_by, scan_row, scan_column, paper_column, paper_row, to_scan_of, to_paper_of}
use Rattle.vx_geom.specs.Seen.{seen}

-- the way there and back ends where it began, from either side: a slant is a bijection of the plane
pub record IsBijection (s : Slant) : Type 0 where
  pub from_paper : (p : Point) → to_paper_of s (to_scan_of s p) ≡ p
  pub from_scan : (p : Point) → to_scan_of s (to_paper_of s p) ≡ p

-- two pairs of places lie equally far apart, but for n columns and m rows
pub record AreAlike (n m : ℕ) (u v other_u other_v x y other_x other_y : ℤ) : Type 0 where
  pub across : IsWithin n ((u -ℤ other_u) -ℤ (x -ℤ other_x))
  pub down : IsWithin m ((v -ℤ other_v) -ℤ (y -ℤ other_y))

-- two columns of the paper that are n * 64 apart are moved down alike, but for n rows; and rows of the
-- scan to the right
pub record MovesNearby (s : Slant) : Type 0 where
  pub down : (n : ℕ) (x y : ℤ) → IsWithin (n * 64) (x -ℤ y) → IsWithin n (down_by s x -ℤ down_by s y)
  pub right : (n : ℕ) (v w : ℤ) → IsWithin (n * 64) (v -ℤ w) → IsWithin n (right_by s v -ℤ right_by s w)

-- a slant is almost rigid: places of the scan that are at most 63 columns and 64 rows apart are places of
-- the paper as far apart, one more or less, and the other way round
pub record IsRigid (s : Slant) : Type 0 where
  pub paper :
      (u v w z : ℤ) → IsWithin 63 (u -ℤ w) → IsWithin 64 (v -ℤ z)
      → AreAlike 1 1 (paper_column s u v) (paper_row s u v) (paper_column s w z) (paper_row s w z) u v w z
  pub scan :
      (x y w z : ℤ) → IsWithin 64 (x -ℤ w) → IsWithin 63 (y -ℤ z)
      → AreAlike 1 1 (scan_column s x y) (scan_row s x y) (scan_column s w z) (scan_row s w z) x y w z
  pub paper_twice :
      (u v w z : ℤ) → IsWithin 126 (u -ℤ w) → IsWithin 128 (v -ℤ z)
      → AreAlike 2 2 (paper_column s u v) (paper_row s u v) (paper_column s w z) (paper_row s w z) u v w z

-- a number, or the next
abbrev pub IsOrNext : ℤ → ℤ → Type 0
IsOrNext z w = (w ≡ z) ⊎ (w ≡ z +ℤ pos 1)

-- what a slant does to a rectangle of at most 64 by 64 pixels of the paper is a translation to which 0 or 1 is
-- added in each coordinate
pub record IsNearlyMoved (s : Slant) (x y : ℤ) (m n : ℕ) : Type 0 where
  pub right : ℤ
  pub down : ℤ
  pub columns :
      (w z : ℤ) → rectangle x y m n w z ≡ true → IsOrNext (w +ℤ right) (scan_column s w z)
  pub rows :
      (w z : ℤ) → rectangle x y m n w z ≡ true → IsOrNext (z +ℤ down) (scan_row s w z)

-- each place of a rectangle of the scan that shows the set is a place of a rectangle of the paper
abbrev pub ComesFrom : Slant → Pixels → ℤ → ℤ → ℕ → ℕ → ℤ → ℤ → ℕ → ℕ → Type 0
ComesFrom s set left top width height paper_left paper_top paper_width paper_height =
    (u v : ℤ) → rectangle left top width height u v ≡ true → seen s set u v ≡ true
    → rectangle paper_left paper_top paper_width paper_height (paper_column s u v) (paper_row s u v) ≡ true

-- each place of a rectangle of the paper that is in the set is at a place of a rectangle of the scan
abbrev pub GoesInto : Slant → Pixels → ℤ → ℤ → ℕ → ℕ → ℤ → ℤ → ℕ → ℕ → Type 0
GoesInto s set paper_left paper_top paper_width paper_height left top width height =
    (x y : ℤ) → rectangle paper_left paper_top paper_width paper_height x y ≡ true → set x y ≡ true
    → rectangle left top width height (scan_column s x y) (scan_row s x y) ≡ true

-- counts are conserved: what a rectangle of the scan shows of a set is at most what the rectangle of the
-- paper has that it comes from, and what a rectangle of the paper has at most what that of the scan shows
-- that it goes into
pub record ConservesCounts (s : Slant) : Type 0 where
  pub at_most :
      (set : Pixels) (left top : ℤ) (width height : ℕ) (x y : ℤ) (m n : ℕ)
      → ComesFrom s set left top width height x y m n
      → count_in left top width height (seen s set) ≤ count_in x y m n set
  pub at_least :
      (set : Pixels) (left top : ℤ) (width height : ℕ) (x y : ℤ) (m n : ℕ)
      → GoesInto s set x y m n left top width height
      → count_in x y m n set ≤ count_in left top width height (seen s set)

-- a slant moves each such rectangle nearly as a whole
abbrev pub SlantsMoveNearlyAsAWhole : Type 0
SlantsMoveNearlyAsAWhole =
    (s : Slant) → IsSlant s → (x y : ℤ) (m n : ℕ) → m ≤ 64 → n ≤ 64 → IsNearlyMoved s x y m n

-- what holds of all slants
abbrev pub SlantsAreBijections : Type 0
SlantsAreBijections = (s : Slant) → IsBijection s

abbrev pub SlantsMoveNearby : Type 0
SlantsMoveNearby = (s : Slant) → IsSlant s → MovesNearby s

abbrev pub SlantsAreRigid : Type 0
SlantsAreRigid = (s : Slant) → IsSlant s → IsRigid s

abbrev pub SlantsConserveCounts : Type 0
SlantsConserveCounts = (s : Slant) → ConservesCounts s
