-- What is accepted lies at a timing mark.
use Rattle.std.proofs.Common.{◌≡◌, ℕ, ◌+◌, ◌*◌, ◌≤◌, Bool, true, false, not, ℤ, pos, ◌+ℤ◌, ◌-ℤ◌, ◌≤ℤ◌, refl, arith}
use Rattle.std.proofs.lemmas.Int.{ints, by_lt_z}
use Rattle.vx_plane.specs.Plane.{Pixels, Page}
use Rattle.vx_plane.specs.Count.{count_in, outside_of}
use Rattle.vx_plane.proofs.Counts.{count_in-complement}
use Rattle.vx_grid.specs.declared.paper.Paper.{Paper}
use Rattle.vx_grid.specs.declared.places.Point.{Point}
use Rattle.vx_grid.specs.Places.{IsWithin, point_of}
use Rattle.vx_grid.specs.Grid.{x_of, y_of}
use Rattle.vx_grid.specs.Regions.{frame_zone}
use Rattle.vx_mark_model.specs.Mark.{IsAccepted, deficit_of}
use Rattle.vx_geom.specs.Slants.{Slant, IsSlant, paper_column, paper_row, scan_column, scan_row}
use Rattle.vx_geom.specs.Seen.{seen}
use Rattle.vx_geom.specs.Laws.{AreAlike}
use Rattle.vx_geom.proofs.Ways.{is-rigid, paper_column-scan, paper_row-scan, scan_column-paper, scan_row-paper}
use Rattle.vx_margin.specs.Marks.{IsBorderPoint, IsInMark, AreMarks, image_of, LiesNear, Belongs}
use Rattle.vx_margin.specs.Flips.{flips_in}
use Rattle.vx_margin.specs.Shown.{ShowsMarks, IsInZone, count_at}
use Rattle.vx_margin.specs.Deficits.{light_core, deficit_in}
use Rattle.vx_margin.specs.Laws.{AcceptedHaveLowDeficits, LowDeficitsLieNear}
use Rattle.vx_margin.proofs.Parts.{count_in-at_least, count_in-some}
use Rattle.vx_margin.proofs.Deficits.{deficit-below}

pub is_light : (b : Bool) → (b ≡ true → ⊥) → not b ≡ true
is_light true h = absurd (h refl)
is_light false h = refl

-- how far a place of the paper is from the centre of a mark
abbrev pub from_column : ℕ → ℤ → ℤ
from_column c x = x -ℤ pos (x_of c)

abbrev pub from_row : Paper → ℕ → ℤ → ℤ
from_row paper r y = y -ℤ pos (y_of paper r)

-- near the image of a centre, a place of the scan shows a place of the paper that is as far from the centre,
-- one pixel more or less
pub alike : (s : Slant) → IsSlant s → (paper : Paper) (c r : ℕ) (u v : ℤ) → IsWithin 63 (u -ℤ (image_of s paper c r).u) → IsWithin 64 (v -ℤ (image_of s paper c r).v)
    → IsWithin 1 (from_column c (paper_column s u v) -ℤ (u -ℤ (image_of s paper c r).u)) × IsWithin 1 (from_row paper r (paper_row s u v) -ℤ (v -ℤ (image_of s paper c r).v))
alike s slant paper c r u v a b =
    let q : Point = image_of s paper c r in
    let near = (is-rigid s slant).paper u v q.u q.v a b in
    let column : paper_column s q.u q.v ≡ pos (x_of c) = paper_column-scan s (pos (x_of c)) (pos (y_of paper r)) in
    let row : paper_row s q.u q.v ≡ pos (y_of paper r) = paper_row-scan s (pos (x_of c)) (pos (y_of paper r)) in (
      record { low = omega (arith, ints, near.across.low, column); high = omega (arith, ints, near.across.high, column) },
      record { low = omega (arith, ints, near.down.low, row); high = omega (arith, ints, near.down.high, row) },
    )

module _ (s : Slant) (slant : IsSlant s) (paper : Paper) (marks : Pixels) (are : AreMarks paper marks) (c r : ℕ) (point : IsBorderPoint paper c r) where
  abbrev q : Point
  q = image_of s paper c r

  -- no mark has a column from 18 to 29 right of the centre of a mark
  pub light-right : (u v : ℤ) → (pos 19 ≤ℤ (u -ℤ q.u)) → ((u -ℤ q.u) ≤ℤ pos 28) → IsWithin 64 (v -ℤ q.v) → seen s marks u v ≡ true → ⊥
  light-right u v a b h dark =
      let at = alike s slant paper c r u v (record { low = omega (arith, ints, a); high = omega (arith, ints, b) }) h in
      let m = are.some _ _ dark in
      omega (arith, ints, a, b, at.0.low, at.0.high, m.3.left, m.3.right)

  -- nor one from 18 to 29 left of it
  pub light-left : (u v : ℤ) → ((u -ℤ q.u) +ℤ pos 20) ≤ℤ pos 0 → pos 0 ≤ℤ ((u -ℤ q.u) +ℤ pos 29) → IsWithin 64 (v -ℤ q.v) → seen s marks u v ≡ true → ⊥
  light-left u v a b h dark =
      let at = alike s slant paper c r u v (record { low = omega (arith, ints, b); high = omega (arith, ints, a) }) h in
      let m = are.some _ _ dark in
      omega (arith, ints, a, b, at.0.low, at.0.high, m.3.left, m.3.right)

  -- no mark has a row from 6 to 45 below it
  pub light-below : (u v : ℤ) → IsWithin 63 (u -ℤ q.u) → pos 7 ≤ℤ (v -ℤ q.v) → (v -ℤ q.v) ≤ℤ pos 44 → seen s marks u v ≡ true → ⊥
  light-below u v h a b dark =
      let at = alike s slant paper c r u v h (record { low = omega (arith, ints, a); high = omega (arith, ints, b) }) in
      let m = are.some _ _ dark in
      omega (arith, ints, a, b, at.1.low, at.1.high, m.3.top, m.3.bottom)

  -- nor one from 7 to 46 above it
  pub light-over : (u v : ℤ) → IsWithin 63 (u -ℤ q.u) → ((v -ℤ q.v) +ℤ pos 8) ≤ℤ pos 0 → pos 0 ≤ℤ ((v -ℤ q.v) +ℤ pos 45) → seen s marks u v ≡ true → ⊥
  light-over u v h a b dark =
      let at = alike s slant paper c r u v h (record { low = omega (arith, ints, b); high = omega (arith, ints, a) }) in
      let m = are.some _ _ dark in
      omega (arith, ints, a, b, at.1.low, at.1.high, m.3.top, m.3.bottom)

  -- within 17 columns to the left and 16 to the right, and within 5 rows above and 4 below, all is dark
  pub dark-near : (u v : ℤ) → pos 0 ≤ℤ ((u -ℤ q.u) +ℤ pos 17) → (u -ℤ q.u) ≤ℤ pos 16 → pos 0 ≤ℤ ((v -ℤ q.v) +ℤ pos 5) → (v -ℤ q.v) ≤ℤ pos 4 → seen s marks u v ≡ true
  dark-near u v a b d e =
      let at = alike s slant paper c r u v (record { low = omega (arith, ints, a); high = omega (arith, ints, b) }) (record { low = omega (arith, ints, d); high = omega (arith, ints, e) }) in
      are.dark c r (paper_column s u v) (paper_row s u v) point (record {
        left = omega (arith, ints, a, at.0.low);
        right = omega (arith, ints, b, at.0.high);
        top = omega (arith, ints, d, at.1.low);
        bottom = omega (arith, ints, e, at.1.high);
      })

  module _ (p : Point) (across : IsWithin 36 (p.u -ℤ q.u)) (down : IsWithin 12 (p.v -ℤ q.v)) where
    abbrev shown : Pixels
    shown = seen s marks

    -- so many columns of the core are light at its right, or at its left; so many rows below, or above
    right-columns : (n : ℕ) → n ≤ 5 → pos (n + 2) ≤ℤ (p.u -ℤ q.u) → 10 * n ≤ light_core shown p
    right-columns n few far =
        count_in-at_least (q.u +ℤ pos 19) (p.v -ℤ pos 5) n 10 (p.u -ℤ pos 17) (p.v -ℤ pos 5) 34 10 (outside_of shown)
        (omega (arith, ints, across.high)) (omega (arith, ints, far)) (omega (arith, ints)) (omega (arith, ints))
        (λ u v a b d e. is_light _ (light-right u v (omega (arith, ints, a)) (omega (arith, ints, b, few)) (record { low = omega (arith, ints, d, down.low); high = omega (arith, ints, e, down.high) })))

    left-columns : (n : ℕ) → n ≤ 5 → ((p.u -ℤ q.u) +ℤ pos (n + 2)) ≤ℤ pos 0 → 10 * n ≤ light_core shown p
    left-columns n few far =
        count_in-at_least (q.u -ℤ pos (n + 19)) (p.v -ℤ pos 5) n 10 (p.u -ℤ pos 17) (p.v -ℤ pos 5) 34 10 (outside_of shown)
        (omega (arith, ints, far)) (omega (arith, ints, across.low)) (omega (arith, ints)) (omega (arith, ints))
        (λ u v a b d e. is_light _ (light-left u v (omega (arith, ints, b)) (omega (arith, ints, a, few)) (record { low = omega (arith, ints, d, down.low); high = omega (arith, ints, e, down.high) })))

    lower-rows : (n : ℕ) → n ≤ 2 → pos (n + 2) ≤ℤ (p.v -ℤ q.v) → n * 34 ≤ light_core shown p
    lower-rows n few far =
        count_in-at_least (p.u -ℤ pos 17) (q.v +ℤ pos 7) 34 n (p.u -ℤ pos 17) (p.v -ℤ pos 5) 34 10 (outside_of shown)
        (omega (arith, ints)) (omega (arith, ints)) (omega (arith, ints, down.high)) (omega (arith, ints, far))
        (λ u v a b d e. is_light _ (light-below u v (record { low = omega (arith, ints, a, across.low); high = omega (arith, ints, b, across.high) }) (omega (arith, ints, d)) (omega (arith, ints, e, few))))

    upper-rows : (n : ℕ) → n ≤ 2 → ((p.v -ℤ q.v) +ℤ pos (n + 2)) ≤ℤ pos 0 → n * 34 ≤ light_core shown p
    upper-rows n few far =
        count_in-at_least (p.u -ℤ pos 17) (q.v -ℤ pos (n + 7)) 34 n (p.u -ℤ pos 17) (p.v -ℤ pos 5) 34 10 (outside_of shown)
        (omega (arith, ints)) (omega (arith, ints)) (omega (arith, ints, far)) (omega (arith, ints, down.low))
        (λ u v a b d e. is_light _ (light-over u v (record { low = omega (arith, ints, a, across.low); high = omega (arith, ints, b, across.high) }) (omega (arith, ints, e)) (omega (arith, ints, d, few))))

    -- a part of a mark lies in a flank
    left-flank : IsWithin 3 (p.v -ℤ q.v) → pos 5 ≤ℤ (p.u -ℤ q.u) → (p.u -ℤ q.u) ≤ℤ pos 6 → 12 ≤ count_in (p.u -ℤ pos 23) (p.v -ℤ pos 5) 4 10 shown
    left-flank near low high =
        count_in-at_least (q.u -ℤ pos 17) (q.v -ℤ pos 2) 3 4 (p.u -ℤ pos 23) (p.v -ℤ pos 5) 4 10 shown
        (omega (arith, ints, high)) (omega (arith, ints, low)) (omega (arith, ints, near.high)) (omega (arith, ints, near.low))
        (λ u v a b d e. dark-near u v (omega (arith, ints, a)) (omega (arith, ints, b)) (omega (arith, ints, d)) (omega (arith, ints, e)))

    right-flank : IsWithin 3 (p.v -ℤ q.v) → ((p.u -ℤ q.u) +ℤ pos 5) ≤ℤ pos 0 → pos 0 ≤ℤ ((p.u -ℤ q.u) +ℤ pos 6) → 12 ≤ count_in (p.u +ℤ pos 19) (p.v -ℤ pos 5) 4 10 shown
    right-flank near high low =
        count_in-at_least (q.u +ℤ pos 14) (q.v -ℤ pos 2) 3 4 (p.u +ℤ pos 19) (p.v -ℤ pos 5) 4 10 shown
        (omega (arith, ints, high)) (omega (arith, ints, low)) (omega (arith, ints, near.high)) (omega (arith, ints, near.low))
        (λ u v a b d e. dark-near u v (omega (arith, ints, a)) (omega (arith, ints, b)) (omega (arith, ints, d)) (omega (arith, ints, e)))

    top-flank : IsWithin 6 (p.u -ℤ q.u) → (p.v -ℤ q.v) ≡ pos 3 → 22 ≤ count_in (p.u -ℤ pos 17) (p.v -ℤ pos 11) 34 4 shown
    top-flank near at =
        count_in-at_least (q.u -ℤ pos 11) (q.v -ℤ pos 5) 22 1 (p.u -ℤ pos 17) (p.v -ℤ pos 11) 34 4 shown
        (omega (arith, ints, near.high)) (omega (arith, ints, near.low)) (omega (arith, ints, at)) (omega (arith, ints, at))
        (λ u v a b d e. dark-near u v (omega (arith, ints, a)) (omega (arith, ints, b)) (omega (arith, ints, d)) (omega (arith, ints, e)))

    bottom-flank : IsWithin 6 (p.u -ℤ q.u) → ((p.v -ℤ q.v) +ℤ pos 3) ≡ pos 0 → 22 ≤ count_in (p.u -ℤ pos 17) (p.v +ℤ pos 7) 34 4 shown
    bottom-flank near at =
        count_in-at_least (q.u -ℤ pos 11) (q.v +ℤ pos 4) 22 1 (p.u -ℤ pos 17) (p.v +ℤ pos 7) 34 4 shown
        (omega (arith, ints, near.high)) (omega (arith, ints, near.low)) (omega (arith, ints, at)) (omega (arith, ints, at))
        (λ u v a b d e. dark-near u v (omega (arith, ints, a)) (omega (arith, ints, b)) (omega (arith, ints, d)) (omega (arith, ints, e)))

    -- a place whose deficit in what is shown is at most 40 lies within 4 columns and 2 rows of the image
    module _ (low_deficit : deficit_in shown p ≤ 40) where
      within-rough : IsWithin 6 (p.u -ℤ q.u) × IsWithin 3 (p.v -ℤ q.v)
      within-rough = (
        record {
          low = by_lt_z (p.u -ℤ q.u) (pos 0 -ℤ pos 6) (λ far. absurd (omega (arith, low_deficit, left-columns 5 (omega arith) (omega (arith, ints, far))))) (λ near. omega (arith, ints, near));
          high = by_lt_z (pos 6) (p.u -ℤ q.u) (λ far. absurd (omega (arith, low_deficit, right-columns 5 (omega arith) (omega (arith, ints, far))))) (λ near. near);
        },
        record {
          low = by_lt_z (p.v -ℤ q.v) (pos 0 -ℤ pos 3) (λ far. absurd (omega (arith, low_deficit, upper-rows 2 (omega arith) (omega (arith, ints, far))))) (λ near. omega (arith, ints, near));
          high = by_lt_z (pos 3) (p.v -ℤ q.v) (λ far. absurd (omega (arith, low_deficit, lower-rows 2 (omega arith) (omega (arith, ints, far))))) (λ near. near);
        },
      )

      pub within : LiesNear 4 2 p q
      within =
          let rough = within-rough in
          let wide : IsWithin 6 (p.u -ℤ q.u) = rough.0 in
          let tall : IsWithin 3 (p.v -ℤ q.v) = rough.1 in
          record {
            across = record {
              low = by_lt_z (p.u -ℤ q.u) (pos 0 -ℤ pos 4)
                  (λ far. absurd (omega (arith, low_deficit, left-columns 3 (omega arith) (omega (arith, ints, far)), right-flank tall (omega (arith, ints, far)) (omega (arith, ints, wide.low)))))
                  (λ near. omega (arith, ints, near));
              high = by_lt_z (pos 4) (p.u -ℤ q.u)
                  (λ far. absurd (omega (arith, low_deficit, right-columns 3 (omega arith) (omega (arith, ints, far)), left-flank tall (omega (arith, ints, far)) wide.high)))
                  (λ near. near);
            };
            down = record {
              low = by_lt_z (p.v -ℤ q.v) (pos 0 -ℤ pos 2)
                  (λ far. absurd (omega (arith, low_deficit, upper-rows 1 (omega arith) (omega (arith, ints, far)), bottom-flank wide (omega (arith, ints, far, tall.low)))))
                  (λ near. omega (arith, ints, near));
              high = by_lt_z (pos 2) (p.v -ℤ q.v)
                  (λ far. absurd (omega (arith, low_deficit, lower-rows 1 (omega arith) (omega (arith, ints, far)), top-flank wide (omega (arith, ints, far, tall.high)))))
                  (λ near. near);
            };
          }

pub sum-within : (n m : ℕ) (z w : ℤ) → IsWithin n (z -ℤ w) → IsWithin m w → IsWithin (n + m) z
sum-within n m z w a b = record { low = omega (arith, ints, a.low, b.low); high = omega (arith, ints, a.high, b.high) }

pub wider : (n m : ℕ) (z : ℤ) → n ≤ m → IsWithin n z → IsWithin m z
wider n m z more h = record { low = omega (arith, ints, more, h.low); high = omega (arith, ints, more, h.high) }

mark-within : (paper : Paper) (c r : ℕ) (x y : ℤ) → IsInMark paper c r x y → IsWithin 18 (x -ℤ pos (x_of c)) × IsWithin 6 (y -ℤ pos (y_of paper r))
mark-within paper c r x y m = (
  record { low = omega (arith, ints, m.left); high = omega (arith, ints, m.right) },
  record { low = omega (arith, ints, m.top); high = omega (arith, ints, m.bottom) },
)

-- a place that shows a pixel of a mark lies within 19 columns and 7 rows of the image of its centre
pub mark-near : (s : Slant) → IsSlant s → (paper : Paper) (c r : ℕ) (u v : ℤ) → IsInMark paper c r (paper_column s u v) (paper_row s u v)
    → LiesNear 19 7 (point_of u v) (image_of s paper c r)
mark-near s slant paper c r u v inside =
    let q : Point = image_of s paper c r in
    let x : ℤ = paper_column s u v in
    let y : ℤ = paper_row s u v in
    let d = mark-within paper c r x y inside in
    let near : AreAlike 1 1 (scan_column s x y) (scan_row s x y) q.u q.v x y (pos (x_of c)) (pos (y_of paper r)) =
    (is-rigid s slant).scan x y (pos (x_of c)) (pos (y_of paper r)) (wider 18 64 _ (omega arith) d.0) (wider 6 63 _ (omega arith) d.1) in
    let across : IsWithin 19 (scan_column s x y -ℤ q.u) = sum-within 1 18 _ _ near.across d.0 in
    let down : IsWithin 7 (scan_row s x y -ℤ q.v) = sum-within 1 6 _ _ near.down d.1 in
    let column : scan_column s x y ≡ u = scan_column-paper s u v in
    let row : scan_row s x y ≡ v = scan_row-paper s u v in
    record {
      across = record { low = omega (arith, ints, column, across.low); high = omega (arith, ints, column, across.high) };
      down = record { low = omega (arith, ints, row, down.low); high = omega (arith, ints, row, down.high) };
    }

-- what is accepted has a low deficit in what is shown
pub accepted-low : AcceptedHaveLowDeficits
accepted-low s scan paper marks p shows zone accepted =
    let better : deficit_in (seen s marks) p ≤ deficit_of scan p + count_at p (flips_in s scan marks (frame_zone paper)) = deficit-below s scan paper marks p accepted.in_frame zone in
    omega (arith, better, accepted.deficit, shows.few p accepted.in_frame)

-- and what has one lies near the image
pub low-near : LowDeficitsLieNear
low-near s paper marks c r p slant are point near low = within s slant paper marks are c r point p near.across near.down low

-- an accepted place whose footprint is seen in the frame zone belongs to a timing mark
module _ (s : Slant) (slant : IsSlant s) (scan : Page) (paper : Paper) (marks : Pixels) (are : AreMarks paper marks) (shows : ShowsMarks s scan paper marks) where
  pub accepted-belongs : (p : Point) → IsInZone s paper p → IsAccepted scan p → Belongs s paper p
  accepted-belongs p zone accepted =
      let low : deficit_in (seen s marks) p ≤ 40 = accepted-low s scan paper marks p shows zone accepted in
      let area : count_in (p.u -ℤ pos 17) (p.v -ℤ pos 5) 34 10 (seen s marks) + light_core (seen s marks) p ≡ 10 * 34 = count_in-complement (p.u -ℤ pos 17) (p.v -ℤ pos 5) 34 10 (seen s marks) in
      let place = count_in-some (p.u -ℤ pos 17) (p.v -ℤ pos 5) 34 10 (seen s marks) (omega (arith, low, area)) in
      let m = are.some _ _ place.is in
      let c : ℕ = m.0 in
      let r : ℕ = m.1 in
      let near : LiesNear 19 7 (point_of place.u place.v) (image_of s paper c r) = mark-near s slant paper c r place.u place.v m.3 in
      let across : IsWithin 36 (p.u -ℤ (image_of s paper c r).u) =
      record { low = omega (arith, ints, place.to, near.across.low); high = omega (arith, ints, place.from, near.across.high) } in
      let down : IsWithin 12 (p.v -ℤ (image_of s paper c r).v) =
      record { low = omega (arith, ints, place.under, near.down.low); high = omega (arith, ints, place.over, near.down.high) } in
      record { c = c; r = r; point = m.2; near = within s slant paper marks are c r m.2 p across down low }
