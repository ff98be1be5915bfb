-- The image of a mark's centre is accepted.
use Rattle.std.proofs.Common.{◌≡◌, ◌⊎◌, inl, inr, ℕ, ◌+◌, ◌-◌, ◌*◌, ◌≤◌, true, false, not, ℤ, pos, ◌+ℤ◌, ◌-ℤ◌, ap, arith}
use Rattle.std.proofs.lemmas.Int.{ints}
use Rattle.vx_base.proofs.Booleans.{is-false}
use Rattle.vx_plane.specs.Plane.{Pixels, Page}
use Rattle.vx_plane.specs.Count.{count_in, outside_of}
use Rattle.vx_plane.proofs.Counts.{count_in-none}
use Rattle.vx_plane.proofs.Pages.{rectangle-sides, rectangle-outside}
use Rattle.vx_grid.specs.declared.paper.Paper.{Paper}
use Rattle.vx_grid.specs.declared.places.Point.{Point}
use Rattle.vx_grid.specs.Paper.{last_row, first_y}
use Rattle.vx_grid.specs.Places.{IsWithin}
use Rattle.vx_grid.specs.Grid.{last_column, x_of, y_of}
use Rattle.vx_grid.specs.Regions.{inner_region, frame_zone}
use Rattle.vx_mark_model.specs.Mark.{IsInFrame, deficit_of}
use Rattle.vx_geom.specs.Slants.{Slant, IsSlant}
use Rattle.vx_geom.specs.Seen.{seen}
use Rattle.vx_grid.proofs.Papers.{last-row_low}
use Rattle.vx_margin.specs.Marks.{IsBorderPoint, AreMarks, image_of, LiesNear}
use Rattle.vx_margin.specs.Flips.{flips_in}
use Rattle.vx_margin.specs.Shown.{IsInZone, count_at}
use Rattle.vx_margin.specs.Deficits.{light_core, deficit_in}
use Rattle.vx_margin.specs.Laws.{HasNoDeficit, ImagesHaveNoDeficit}
use Rattle.vx_margin.proofs.Deficits.{deficit-above}
use Rattle.vx_margin.proofs.Found.{wider, sum-within, alike, light-right, light-left, light-below, light-over, dark-near}

-- a grid point on a line of border points: the first or the last row or column, whatever the other
abbrev pub IsOnBorderLine : Paper → ℕ → ℕ → Type 0
IsOnBorderLine paper c r = (r ≡ 0) ⊎ (r ≡ last_row paper) ⊎ (c ≡ 0) ⊎ (c ≡ last_column)

pub outside_is_zone : (paper : Paper) (x y : ℤ) → inner_region paper x y ≡ false → frame_zone paper x y ≡ true
outside_is_zone paper x y h = ap not h

-- a place of the paper near a border line lies in the frame zone
zone-near : (paper : Paper) (c r : ℕ) (x y : ℤ) → c ≤ 34 → r ≤ last_row paper + 1 → IsOnBorderLine paper c r
    → IsWithin 39 (x -ℤ pos (x_of c)) → IsWithin 21 (y -ℤ pos (y_of paper r)) → frame_zone paper x y ≡ true
zone-near paper c r x y few low (inl top) a b =
    outside_is_zone paper x y (rectangle-outside (pos 178) (pos (first_y paper + 130)) 1344 (52 * last_row paper - 260) x y (inr (inr (inl (omega (arith, ints, b.high, top))))))
zone-near paper c r x y few low (inr (inl bottom)) a b =
    outside_is_zone paper x y
    (rectangle-outside (pos 178) (pos (first_y paper + 130)) 1344 (52 * last_row paper - 260) x y
    (inr (inr (inr (omega (arith, ints, b.low, bottom, last-row_low paper))))))
zone-near paper c r x y few low (inr (inr (inl left))) a b =
    outside_is_zone paper x y (rectangle-outside (pos 178) (pos (first_y paper + 130)) 1344 (52 * last_row paper - 260) x y (inl (omega (arith, ints, a.high, left))))
zone-near paper c r x y few low (inr (inr (inr right))) a b =
    outside_is_zone paper x y (rectangle-outside (pos 178) (pos (first_y paper + 130)) 1344 (52 * last_row paper - 260) x y (inr (inl (omega (arith, ints, a.low, right)))))

module _ (s : Slant) (slant : IsSlant s) (paper : Paper) (c r : ℕ) (few : c ≤ 34) (low : r ≤ last_row paper + 1) (line : IsOnBorderLine paper c r) where
  -- the footprint of a place near the image of a grid point on a border line is seen in the frame zone
  pub near-IsInZone : (p : Point) → LiesNear 15 9 p (image_of s paper c r) → IsInZone s paper p
  near-IsInZone p near = record {
    each = λ u v inside.
        let q : Point = image_of s paper c r in
        let sides = rectangle-sides (p.u -ℤ pos 23) (p.v -ℤ pos 11) 46 22 u v inside in
        let across : IsWithin 38 (u -ℤ q.u) = record { low = omega (arith, ints, near.across.low, sides.0); high = omega (arith, ints, near.across.high, sides.1) } in
        let down : IsWithin 20 (v -ℤ q.v) = record { low = omega (arith, ints, near.down.low, sides.2); high = omega (arith, ints, near.down.high, sides.3) } in
        let at = alike s slant paper c r u v (wider 38 63 _ (omega arith) across) (wider 20 64 _ (omega arith) down) in
        zone-near paper c r _ _ few low line (sum-within 1 38 _ _ at.0 across) (sum-within 1 20 _ _ at.1 down);
  }

module _ (s : Slant) (slant : IsSlant s) (scan : Page) (paper : Paper) (marks : Pixels) (are : AreMarks paper marks) (c r : ℕ) (point : IsBorderPoint paper c r) where
  abbrev q : Point
  q = image_of s paper c r

  abbrev shown : Pixels
  shown = seen s marks

  at-itself : LiesNear 15 9 q q
  at-itself = record {
    across = record { low = omega (arith, ints); high = omega (arith, ints) };
    down = record { low = omega (arith, ints); high = omega (arith, ints) };
  }

  core-dark : light_core shown q ≡ 0
  core-dark =
      count_in-none (q.u -ℤ pos 17) (q.v -ℤ pos 5) 34 10 (outside_of shown)
      (λ u v a b d e. ap not (dark-near s slant paper marks are c r point u v (omega (arith, ints, a)) (omega (arith, ints, b)) (omega (arith, ints, d)) (omega (arith, ints, e))))

  left-light : count_in (q.u -ℤ pos 23) (q.v -ℤ pos 5) 4 10 shown ≡ 0
  left-light =
      count_in-none (q.u -ℤ pos 23) (q.v -ℤ pos 5) 4 10 shown
      (λ u v a b d e. is-false _
      (light-left s slant paper marks are c r point u v (omega (arith, ints, b)) (omega (arith, ints, a))
      (record { low = omega (arith, ints, d); high = omega (arith, ints, e) })))

  right-light : count_in (q.u +ℤ pos 19) (q.v -ℤ pos 5) 4 10 shown ≡ 0
  right-light =
      count_in-none (q.u +ℤ pos 19) (q.v -ℤ pos 5) 4 10 shown
      (λ u v a b d e. is-false _
      (light-right s slant paper marks are c r point u v (omega (arith, ints, a)) (omega (arith, ints, b))
      (record { low = omega (arith, ints, d); high = omega (arith, ints, e) })))

  top-light : count_in (q.u -ℤ pos 17) (q.v -ℤ pos 11) 34 4 shown ≡ 0
  top-light =
      count_in-none (q.u -ℤ pos 17) (q.v -ℤ pos 11) 34 4 shown
      (λ u v a b d e. is-false _
      (light-over s slant paper marks are c r point u v (record { low = omega (arith, ints, a); high = omega (arith, ints, b) })
      (omega (arith, ints, e)) (omega (arith, ints, d))))

  bottom-light : count_in (q.u -ℤ pos 17) (q.v +ℤ pos 7) 34 4 shown ≡ 0
  bottom-light =
      count_in-none (q.u -ℤ pos 17) (q.v +ℤ pos 7) 34 4 shown
      (λ u v a b d e. is-false _
      (light-below s slant paper marks are c r point u v (record { low = omega (arith, ints, a); high = omega (arith, ints, b) })
      (omega (arith, ints, d)) (omega (arith, ints, e))))

  -- nothing is wrong at the image of a mark's centre but flips
  flipped : IsInFrame scan q → deficit_in shown q ≡ 0 → deficit_of scan q ≤ count_at q (flips_in s scan marks (frame_zone paper))
  flipped framed none =
      let zone : IsInZone s paper q = near-IsInZone s slant paper c r (omega (arith, point.column)) (omega (arith, point.row)) point.side q at-itself in
      let most : deficit_of scan q ≤ deficit_in shown q + count_at q (flips_in s scan marks (frame_zone paper)) = deficit-above s scan paper marks q framed zone in
      omega (arith, most, none)

  -- so it is accepted, where its footprint lies in the frame
  image-clear : HasNoDeficit s scan paper marks q
  image-clear =
      let none : deficit_in shown q ≡ 0 = omega (arith, core-dark, left-light, right-light, top-light, bottom-light) in
      record {
        shown = none;
        flipped = λ framed. flipped framed none;
        accepted = λ shows framed. record { in_frame = framed; deficit = omega (arith, flipped framed none, shows.few q framed) };
      }

pub images-clear : ImagesHaveNoDeficit
images-clear s scan paper marks c r slant are point = image-clear s slant scan paper marks are c r point
