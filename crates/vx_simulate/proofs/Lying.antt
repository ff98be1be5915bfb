-- A simulated page lies in its frame.
use Rattle.std.proofs.Common.{◌≡◌, ℕ, ◌+◌, ◌*◌, ◌≤◌, ℤ, pos, ◌+ℤ◌, ◌-ℤ◌, ◌*ℤ◌, ◌≤ℤ◌, refl, ap, arith}
use Rattle.std.proofs.lemmas.Int.{ints}
use Rattle.vx_grid.specs.declared.paper.Paper.{Paper}
use Rattle.vx_grid.specs.declared.paper.Paper.TheVariants.{Letter, Legal}
use Rattle.vx_grid.specs.Paper.{last_row, first_y}
use Rattle.vx_grid.specs.Places.{IsWithin}
use Rattle.vx_geom.specs.Slants.{Slant, IsSlant, slant_of, whole_of, down_by, right_by, scan_row, scan_column}
use Rattle.vx_geom.proofs.Shears.{down_by-shear, right_by-shear}
use Rattle.vx_geom.proofs.Floors.{down-near, right-near}
use Rattle.vx_simulate.specs.Lie.{frame_height, shear_to, start_column}

-- a place of the frame of timing marks
pub record IsFramed (paper : Paper) (x y : ℤ) : Type 0 where
  pub left : pos 58 ≤ℤ x
  pub right : x ≤ℤ pos 1642
  pub top : pos (first_y paper) ≤ℤ y
  pub bottom : y ≤ℤ (pos (first_y paper) +ℤ pos (52 * last_row paper))

-- a place of the scan whose footprint lies in the frame
pub record IsWellInside (paper : Paper) (u v : ℤ) : Type 0 where
  pub left : pos 23 ≤ℤ u
  pub right : u ≤ℤ pos 1777
  pub top : pos 11 ≤ℤ v
  pub bottom : v ≤ℤ (pos (frame_height paper) -ℤ pos 11)

-- how far rows of a page are moved apart along its height
abbrev aslant : Paper → ℕ
aslant Letter = 33
aslant Legal = 42

down-room : (paper : Paper) → 52 * last_row paper + 25 ≤ aslant paper * 64
down-room Letter = omega arith
down-room Legal = omega arith

left-room : (paper : Paper) → 23 + aslant paper ≤ start_column paper
left-room Letter = omega arith
left-room Legal = omega arith

right-room : (paper : Paper) → aslant paper ≤ 42
right-room Letter = omega arith
right-room Legal = omega arith

bottom-room : (paper : Paper) → 52 * last_row paper + 136 ≤ frame_height paper
bottom-room Letter = omega arith
bottom-room Legal = omega arith

module _ (paper : Paper) (a b u v : ℤ) (rows : IsWithin 64 a) (columns : IsWithin 64 b) where
  abbrev s : Slant
  s = slant_of (shear_to paper a b u v)

  pub slant-is : IsSlant s
  slant-is = record { a = rows; b = columns; p = omega arith; q = omega arith }

  -- the first mark lies where it is to lie
  first-down : down_by s (pos 58) ≡ v -ℤ pos (first_y paper)
  first-down =
      let by : (shear_to paper a b u v).sy +ℤ whole_of (b *ℤ pos 58) ≡ down_by s (pos 58) = down_by-shear (shear_to paper a b u v) (pos 58) (whole_of (b *ℤ pos 58)) refl in
      omega (arith, ints, by)

  first-right : right_by s v ≡ u -ℤ pos 58
  first-right =
      let by : (shear_to paper a b u v).sx +ℤ whole_of (a *ℤ v) ≡ right_by s v = right_by-shear (shear_to paper a b u v) v (whole_of (a *ℤ v)) refl in
      omega (arith, ints, by)

  pub first-row : (y : ℤ) → y ≡ pos (first_y paper) → scan_row s (pos 58) y ≡ v
  first-row y at = let by = first-down in omega (arith, ints, by, at)

  pub first-column : (y : ℤ) → y ≡ pos (first_y paper) → scan_column s (pos 58) y ≡ u
  first-column y at =
      let there : right_by s (scan_row s (pos 58) y) ≡ right_by s v = ap (right_by s) (first-row y at) in
      let by = first-right in
      omega (arith, ints, there, by)

  module _ (x y : ℤ) (framed : IsFramed paper x y) where
    -- its row is that of the first mark and so much further down, but for 25 rows
    near-row : IsWithin 25 ((scan_row s x y -ℤ v) -ℤ (y -ℤ pos (first_y paper)))
    near-row =
        let near : IsWithin 25 (down_by s x -ℤ down_by s (pos 58)) =
        down-near s slant-is 25 x (pos 58) (record { low = omega (arith, ints, framed.left); high = omega (arith, ints, framed.right) }) in
        let by = first-down in
        record { low = omega (arith, ints, near.low, by); high = omega (arith, ints, near.high, by) }

    near-column : IsWithin (aslant paper) ((scan_column s x y -ℤ u) -ℤ (x -ℤ pos 58))
    near-column =
        let row = near-row in
        let room = down-room paper in
        let near : IsWithin (aslant paper) (right_by s (scan_row s x y) -ℤ right_by s v) =
        right-near s slant-is (aslant paper) (scan_row s x y) v
        (record {
          low = omega (arith, ints, row.low, room, framed.top);
          high = omega (arith, ints, row.high, room, framed.bottom);
        }) in
        let by = first-right in
        record { low = omega (arith, ints, near.low, by); high = omega (arith, ints, near.high, by) }

    pub well-inside : pos (start_column paper) ≤ℤ u → u ≤ℤ pos 112 → pos 40 ≤ℤ v → v ≤ℤ pos 100 → IsWellInside paper (scan_column s x y) (scan_row s x y)
    well-inside from to above below =
        let row = near-row in
        let column = near-column in
        let left = left-room paper in
        let right = right-room paper in
        let bottom = bottom-room paper in
        record {
          left = omega (arith, ints, column.low, framed.left, from, left);
          right = omega (arith, ints, column.high, framed.right, to, right);
          top = omega (arith, ints, row.low, framed.top, above);
          bottom = omega (arith, ints, row.high, framed.bottom, below, bottom);
        }
