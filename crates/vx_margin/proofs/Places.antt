-- The timing marks of a page, and its grid places.
use Rattle.std.proofs.Common.{◌≡◌, ℕ, ◌≤◌, true, ℤ, pos, ◌-ℤ◌, sym, subst, arith}
use Rattle.std.proofs.lemmas.Int.{ints}
use Rattle.vx_plane.proofs.Pages.{in_any-some, in_any-one, rectangle-inside, rectangle-sides}
use Rattle.vx_grid.specs.declared.paper.Paper.{Paper}
use Rattle.vx_grid.specs.declared.places.Point.{Point}
use Rattle.vx_grid.specs.Paper.{last_row}
use Rattle.vx_grid.specs.Grid.{x_of, y_of}
use Rattle.vx_grid.specs.Marks.{marks, mark_of, mark_pixels, timing_marks}
use Rattle.vx_grid.specs.Borders.{MarkPlaces}
use Rattle.vx_grid.specs.Places.{point_at}
use Rattle.vx_fit.specs.Fit.{left_mark, right_mark, place_of}
use Rattle.vx_geom.specs.Slants.{Slant, IsSlant}
use Rattle.vx_grid.proofs.Papers.{last-row_low}
use Rattle.vx_margin.specs.Marks.{IsInMark, AreMarks, image_of, LiesNear}
use Rattle.vx_margin.specs.Chains.{LieAtMarks}
use Rattle.vx_margin.proofs.Numbers.{mark-point, number-at, left-end, right-end}
use Rattle.vx_margin.proofs.Grids.{grid-near}

mark-some : (paper : Paper) (k : ℕ) (x y : ℤ) → mark_pixels paper k x y ≡ true → IsInMark paper (mark_of (last_row paper) k).0 (mark_of (last_row paper) k).1 x y
unfolding mark_pixels
mark-some paper k x y h =
    let c : ℕ = (mark_of (last_row paper) k).0 in
    let r : ℕ = (mark_of (last_row paper) k).1 in
    let sides = rectangle-sides (pos (x_of c) -ℤ pos 18) (pos (y_of paper r) -ℤ pos 6) 36 12 x y h in
    record { left = sides.0; right = omega (arith, ints, sides.1); top = sides.2; bottom = omega (arith, ints, sides.3) }

mark-dark : (paper : Paper) (k : ℕ) (x y : ℤ) → IsInMark paper (mark_of (last_row paper) k).0 (mark_of (last_row paper) k).1 x y → mark_pixels paper k x y ≡ true
unfolding mark_pixels
mark-dark paper k x y m =
    let c : ℕ = (mark_of (last_row paper) k).0 in
    let r : ℕ = (mark_of (last_row paper) k).1 in
    rectangle-inside (pos (x_of c) -ℤ pos 18) (pos (y_of paper r) -ℤ pos 6) 36 12 x y m.left (omega (arith, ints, m.right)) m.top (omega (arith, ints, m.bottom))

-- the timing marks are the marks at all border points
pub marks-are : (paper : Paper) → AreMarks paper (timing_marks paper)
unfolding timing_marks
marks-are paper = record {
  dark = λ c r x y point inside.
      let k = number-at (last_row paper) c r (last-row_low paper) point.column point.row point.side in
      let In : ℕ → ℕ → Type 0 = λ a b. IsInMark paper a b x y in
      in_any-one (marks paper) k.0 (mark_pixels paper) x y k.1
      (mark-dark paper k.0 x y (subst (λ (b : ℕ). In (mark_of (last_row paper) k.0).0 b) (sym k.3) (subst (λ (a : ℕ). In a r) (sym k.2) inside)));
  some = λ x y h.
      let k = in_any-some (marks paper) (mark_pixels paper) x y h in
      ((mark_of (last_row paper) k.0).0, (mark_of (last_row paper) k.0).1, mark-point paper k.0 k.1, mark-some paper k.0 x y k.2);
}

-- grid places between places that lie at the marks lie near the images of their grid points
pub places-near : (s : Slant) → IsSlant s → (border : MarkPlaces) → LieAtMarks s border.paper (marks border.paper) border.places
    → (c r : ℕ) → c ≤ 33 → r ≤ last_row border.paper → LiesNear 6 4 (place_of border c r) (image_of s border.paper c r)
places-near s slant border near c r few low =
    let paper : Paper = border.paper in
    let last : ℕ = last_row paper in
    let l = left-end last r (last-row_low paper) low in
    let t = right-end last r (last-row_low paper) low in
    let left : Point = point_at border.places (left_mark last r) in
    let right : Point = point_at border.places (right_mark r) in
    let At : Point → ℕ → ℕ → Type 0 = λ p a b. LiesNear 4 2 p (image_of s paper a b) in
    grid-near s slant paper c r left right few
    (subst (λ (b : ℕ). At left 0 b) l.1 (subst (λ (a : ℕ). At left a (mark_of last (left_mark last r)).1) l.0 (near.each (left_mark last r) l.2)))
    (subst (λ (b : ℕ). At right 33 b) t.1 (subst (λ (a : ℕ). At right a (mark_of last (right_mark r)).1) t.0 (near.each (right_mark r) t.2)))
