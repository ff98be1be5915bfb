-- The zones of the page code, one by one, and where they stand.
use Rattle.std.proofs.Common.{◌≡◌, ℕ, ◌+◌, ◌/◌, ◌<◌, Bool, true, false, ℤ, pos, ◌-ℤ◌, ap, ap₂, sym, ◌∙◌, arith}
use Rattle.std.proofs.lemmas.Int.{ints}
use Rattle.vx_base.proofs.Booleans.{is-false}
use Rattle.vx_plane.specs.Plane.{rectangle, in_any}
use Rattle.vx_plane.proofs.Pages.{rectangle-sides, rectangle-inside, in_any-some, in_any-one}
use Rattle.vx_grid.specs.declared.paper.Paper.{Paper}
use Rattle.vx_grid.specs.declared.paper.Paper.TheVariants.{Letter, Legal}
use Rattle.vx_grid.specs.Grid.{x_of, y_of, first_code_row, first_contest_row, contest_rows}
use Rattle.vx_code.specs.Code.{place_of_box}
use Rattle.vx_layout.specs.Zones.{box_zone_at, code_zones}

-- the zone of a box is in the rectangle of all of them
zone-inside : (paper : Paper) (n : ℕ) (u v : ℤ) → n < 84 → box_zone_at paper (place_of_box paper n) u v ≡ true
    → rectangle (pos 172) (pos (y_of paper (first_code_row paper)) -ℤ pos 22) 1356 148 u v ≡ true
zone-inside paper n u v few inside =
    let sides = rectangle-sides (pos (x_of (place_of_box paper n).0) -ℤ pos 30) (pos (y_of paper (place_of_box paper n).1) -ℤ pos 22) 60 44 u v inside in
    rectangle-inside (pos 172) (pos (y_of paper (first_code_row paper)) -ℤ pos 22) 1356 148 u v
    (omega (arith, ints, sides.0)) (omega (arith, ints, sides.1, few)) (omega (arith, ints, sides.2)) (omega (arith, ints, sides.3, few))

-- a zone of one
pub zones-one : (paper : Paper) (n : ℕ) (u v : ℤ) → n < 84 → box_zone_at paper (place_of_box paper n) u v ≡ true → code_zones paper u v ≡ true
unfolding code_zones
zones-one paper n u v few inside = in_any-one 84 n (λ k. box_zone_at paper (place_of_box paper k)) u v few inside

pub zones-none : (paper : Paper) (n : ℕ) (u v : ℤ) → n ≡ 84 → in_any n (λ k. box_zone_at paper (place_of_box paper k)) u v ≡ false → code_zones paper u v ≡ false
unfolding code_zones
zones-none paper n u v all none = ap (λ m. in_any m (λ k. box_zone_at paper (place_of_box paper k)) u v) (sym all) ∙ none

-- the rows of bubbles and of the page code are few
pub bubble-rows_few : (paper : Paper) (row : ℕ) → row < first_contest_row + contest_rows paper → y_of paper row < 4000
bubble-rows_few Letter row h = omega arith
bubble-rows_few Legal row h = omega arith

pub code-rows_few : (paper : Paper) (n : ℕ) → n < 84 → y_of paper (first_code_row paper + n / 2 / 14) < 4000
code-rows_few Letter n h = omega arith
code-rows_few Legal n h = omega arith

pub first-code-row_few : (paper : Paper) → y_of paper (first_code_row paper) < 4000
first-code-row_few Letter = omega arith
first-code-row_few Legal = omega arith

-- a rectangle by what the code knows of its corner
pub moved-rectangle : (is : Bool) (l t left top : ℤ) (width height : ℕ) (u v : ℤ) → is ≡ rectangle l t width height u v → l ≡ left → t ≡ top → is ≡ rectangle left top width height u v
moved-rectangle is l t left top width height u v e across down = e ∙ ap₂ (λ x y. rectangle x y width height u v) across down

-- outside of that rectangle there is no zone
pub beyond-code : (paper : Paper) (is : Bool) (top u v : ℤ) → is ≡ rectangle (pos 172) top 1356 148 u v → is ≡ false → top ≡ pos (y_of paper (first_code_row paper)) -ℤ pos 22
    → false ≡ code_zones paper u v
unfolding code_zones
beyond-code paper is top u v test out at =
    sym (is-false (code_zones paper u v) (λ h.
    let some : (n : ℕ) × (n < 84) × (box_zone_at paper (place_of_box paper n) u v ≡ true) = in_any-some 84 (λ n. box_zone_at paper (place_of_box paper n)) u v h in
    let both : true ≡ false = sym (zone-inside paper some.0 u v some.1 some.2) ∙ ap (λ z. rectangle (pos 172) z 1356 148 u v) (sym at) ∙ sym test ∙ out in
    absurd (cc)))
