-- Where a scan begins that shows a turned page, and which places can't begin a border.
use Rattle.std.proofs.Common.{◌≡◌, ◌⊎◌, inl, inr, ℕ, zero, suc, ◌+◌, ◌-◌, ◌*◌, ◌≤◌, ◌<◌, true, List, ℤ, pos, ◌-ℤ◌, ◌≤ℤ◌, ◌<ℤ◌, refl, ap, subst, arith}
use Rattle.std.proofs.lemmas.Int.{ints}
use Rattle.std.proofs.lemmas.Bool.Decides.{nat_tests}
use Rattle.vx_plane.specs.Plane.{Pixels, Page}
use Rattle.vx_plane.proofs.Pages.{rectangle-sides, rectangle-outside}
use Rattle.vx_grid.specs.declared.paper.Paper.{Paper}
use Rattle.vx_grid.specs.declared.places.Point.{Point}
use Rattle.vx_grid.specs.Paper.{last_row, first_y}
use Rattle.vx_grid.specs.Grid.{x_of, y_of}
use Rattle.vx_grid.specs.Marks.{marks as marks_of, mark_of}
use Rattle.vx_grid.specs.Places.{IsWithin, point_at}
use Rattle.vx_mark_model.specs.Mark.{IsInFrame}
use Rattle.vx_mark_model.specs.Corner.{IsInCornerRegion}
use Rattle.vx_mark_model.specs.Best.{IsNear}
use Rattle.vx_mark_model.specs.Following.{is_in_row, leader_of, right_of, prediction_of}
use Rattle.vx_geom.specs.Slants.{Slant, IsSlant, paper_column, paper_row, scan_column, scan_row, right_by, down_by}
use Rattle.vx_geom.proofs.Floors.{down-near, right-near}
use Rattle.vx_geom.proofs.Ways.{is-rigid, paper_column-scan, paper_row-scan}
use Rattle.vx_geom.proofs.Turned.{turned-slant, down-turned, right-turned}
use Rattle.vx_grid.proofs.Papers.{last-row_low, last-row_high, height-is}
use Rattle.vx_margin.specs.Marks.{IsBorderPoint, AreMarks, image_of, mark_image, LiesNear, Belongs}
use Rattle.vx_margin.specs.Shown.{ShowsMarks, ShowsBorder, IsInZone, IsInStartRegion}
use Rattle.vx_margin.specs.Chains.{IsChain, LieAtMarks}
use Rattle.vx_margin.specs.Turned.{IsTurned, last_x, last_y, slant_turned}
use Rattle.vx_margin.proofs.Found.{wider, sum-within, alike, accepted-belongs}
use Rattle.vx_margin.proofs.Images.{outside_is_zone}
use Rattle.vx_margin.proofs.Steps.{right-predicted, one-point, accepted-at, near-from, near-back, is-near, left-of-inner}
use Rattle.vx_margin.proofs.Chains.{chain-near}

-- the grid point right of the first mark of the left column has no mark
no-side : (last c r : ℕ) → 40 ≤ last → c ≡ 1 → r ≡ 1 → (r ≡ 0) ⊎ (r ≡ last) ⊎ (c ≡ 0) ⊎ (c ≡ 33) → ⊥
no-side last c r many one two (inl e) = omega (arith, two, e)
no-side last c r many one two (inr (inl e)) = omega (arith, two, e, many)
no-side last c r many one two (inr (inr (inl e))) = omega (arith, one, e)
no-side last c r many one two (inr (inr (inr e))) = omega (arith, one, e)

-- nor has one right of it
pub not-side : (last c r : ℕ) → 40 ≤ last → 1 ≤ c → c ≤ 2 → 1 ≤ r → r ≤ 1 → (r ≡ 0) ⊎ (r ≡ last) ⊎ (c ≡ 0) ⊎ (c ≡ 33) → ⊥
not-side last c r many some few one two (inl e) = omega (arith, one, e)
not-side last c r many some few one two (inr (inl e)) = omega (arith, two, e, many)
not-side last c r many some few one two (inr (inr (inl e))) = omega (arith, some, e)
not-side last c r many some few one two (inr (inr (inr e))) = omega (arith, few, e)

-- in the top row each mark is expected right of the one before
top-prediction : (last k : ℕ) (places : List Point) → 40 ≤ last → k < 33 → prediction_of last places (suc k) ≡ right_of (point_at places k)
top-prediction last k places many few =
    let row : is_in_row last (suc k) ≡ true = grind (arith, nat_tests) in
    let lead : leader_of last (suc k) ≡ k = grind (arith, nat_tests) in
    rw row (ap (λ m. right_of (point_at places m)) lead)

module _ (s : Slant) (slant : IsSlant s) (scan : Page) (paper : Paper) (marks : Pixels) (are : AreMarks paper marks) (shows : ShowsMarks s scan paper marks)
    (n : ℕ) (many : 34 ≤ n) (places : List Point) (chain : IsChain scan (last_row paper) n places) where
  -- a chain that begins at a later mark of the top row runs along it
  top-row : (c : ℕ) → LiesNear 4 2 (point_at places 0) (image_of s paper c 0) → (k : ℕ) → c + k ≤ 33 → LiesNear 4 2 (point_at places k) (image_of s paper (c + k) 0)
  top-row c first zero within =
      let same : c ≡ c + 0 = omega arith in
      subst (λ (m : ℕ). LiesNear 4 2 (point_at places 0) (image_of s paper m 0)) same first
  top-row c first (suc k) within =
      let before : LiesNear 4 2 (point_at places k) (image_of s paper (c + k) 0) = top-row c first k (omega (arith, within)) in
      let next : (c + k) + 1 ≡ c + suc k = omega arith in
      let expected : LiesNear 5 3 (right_of (point_at places k)) (image_of s paper (c + suc k) 0) =
      subst (λ (m : ℕ). LiesNear 5 3 (right_of (point_at places k)) (image_of s paper m 0)) next (right-predicted s slant paper (point_at places k) (c + k) 0 before) in
      let predicted : prediction_of (last_row paper) places (suc k) ≡ right_of (point_at places k) =
      top-prediction (last_row paper) k places (last-row_low paper) (omega (arith, within)) in
      let near : IsNear (right_of (point_at places k)) (point_at places (suc k)) =
      subst (λ (q : Point). IsNear q (point_at places (suc k))) predicted (chain.near (suc k) (omega arith) (omega (arith, within, many))) in
      (accepted-at s slant scan paper marks are shows (c + suc k) 0 (omega (arith, within)) (omega arith) (inl refl) (right_of (point_at places k)) (point_at places (suc k)) expected
      (chain.accepted (suc k) (omega (arith, within, many))) near).1

  -- and ends past its last mark, where nothing is accepted
  pub not-top : (c : ℕ) → 1 ≤ c → c ≤ 33 → LiesNear 4 2 (point_at places 0) (image_of s paper c 0) → ⊥
  not-top c low high first =
      let k : ℕ = 33 - c in
      let last : LiesNear 4 2 (point_at places k) (image_of s paper (c + k) 0) = top-row c first k (omega (arith, high)) in
      let next : (c + k) + 1 ≡ 34 = omega (arith, high) in
      let expected : LiesNear 5 3 (right_of (point_at places k)) (image_of s paper 34 0) =
      subst (λ (m : ℕ). LiesNear 5 3 (right_of (point_at places k)) (image_of s paper m 0)) next (right-predicted s slant paper (point_at places k) (c + k) 0 last) in
      let predicted : prediction_of (last_row paper) places (suc k) ≡ right_of (point_at places k) =
      top-prediction (last_row paper) k places (last-row_low paper) (omega (arith, low, high)) in
      let near : IsNear (right_of (point_at places k)) (point_at places (suc k)) =
      subst (λ (q : Point). IsNear q (point_at places (suc k))) predicted (chain.near (suc k) (omega arith) (omega (arith, low, many))) in
      let point : IsBorderPoint paper 34 0 =
      (accepted-at s slant scan paper marks are shows 34 0 (omega arith) (omega arith) (inl refl) (right_of (point_at places k)) (point_at places (suc k)) expected
      (chain.accepted (suc k) (omega (arith, low, many))) near).0 in
      omega (arith, point.column)

  -- so a chain doesn't begin at the mark below the first
  pub not-below : LiesNear 4 2 (point_at places 0) (image_of s paper 0 1) → ⊥
  not-below first =
      let p : Point = point_at places 1 in
      let q : Point = image_of s paper 1 1 in
      let expected : LiesNear 5 3 (right_of (point_at places 0)) q = right-predicted s slant paper (point_at places 0) 0 1 first in
      let predicted : prediction_of (last_row paper) places 1 ≡ right_of (point_at places 0) =
      top-prediction (last_row paper) 0 places (last-row_low paper) (omega arith) in
      let near : IsNear (right_of (point_at places 0)) p = subst (λ (o : Point). IsNear o p) predicted (chain.near 1 (omega arith) (omega (arith, many))) in
      let close : LiesNear 15 9 p q = near-from 10 6 5 3 p (right_of (point_at places 0)) q (is-near (right_of (point_at places 0)) p near) expected in
      let zone : IsInZone s paper p = record {
        each = λ u v inside.
            let sides = rectangle-sides (p.u -ℤ pos 23) (p.v -ℤ pos 11) 46 22 u v inside in
            let across : IsWithin 38 (u -ℤ q.u) = record { low = omega (arith, ints, close.across.low, sides.0); high = omega (arith, ints, close.across.high, sides.1) } in
            let down : IsWithin 20 (v -ℤ q.v) = record { low = omega (arith, ints, close.down.low, sides.2); high = omega (arith, ints, close.down.high, sides.3) } in
            let at = alike s slant paper 1 1 u v (wider 38 63 _ (omega arith) across) (wider 20 64 _ (omega arith) down) in
            let column : IsWithin 39 (paper_column s u v -ℤ pos (x_of 1)) = sum-within 1 38 _ _ at.0 across in
            outside_is_zone paper (paper_column s u v) (paper_row s u v) (left-of-inner paper (paper_column s u v) (paper_row s u v) (omega (arith, ints, column.high)));
      } in
      let mark : Belongs s paper p = accepted-belongs s slant scan paper marks are shows p zone (chain.accepted 1 (omega (arith, many))) in
      let images : LiesNear 19 11 (image_of s paper mark.c mark.r) q = near-from 4 2 15 9 (image_of s paper mark.c mark.r) p q (near-back 4 2 p (image_of s paper mark.c mark.r) mark.near) close in
      let same = one-point s slant paper mark.c mark.r 1 1 images in
      no-side (last_row paper) mark.c mark.r (last-row_low paper) same.0 same.1 mark.point.side

-- the scan of a turned page: its first mark is seen not far from the corner's region, and the chain begins there
module _ (s : Slant) (scan other : Page) (paper : Paper) (marks turned_marks : Pixels) (turned : IsTurned scan other) (shows : ShowsBorder s other paper marks)
    (start : IsInStartRegion (mark_image s paper 0)) (wide : scan.width ≤ 2000) (high : scan.height ≤ 52 * last_row paper + 350)
    (are : AreMarks paper turned_marks) (shown : ShowsMarks (slant_turned paper scan s) scan paper turned_marks) where
  abbrev t : Slant
  t = slant_turned paper scan s

  slant : IsSlant t
  slant = turned-slant last_x (last_y paper) (pos scan.width -ℤ pos 1) (pos scan.height -ℤ pos 1) s shows.slant_is

  abbrev q : Point
  q = image_of t paper 0 0

  -- the image of the last mark of the page as it lies
  abbrev last : Point
  last = image_of s paper 33 (last_row paper)

  last-framed : IsInFrame other last
  last-framed =
      let k : ℕ = 33 + last_row paper in
      let c : (mark_of (last_row paper) k).0 ≡ 33 = (let many = last-row_low paper in grind (arith, nat_tests)) in
      let r : (mark_of (last_row paper) k).1 ≡ last_row paper = (let many = last-row_low paper in grind (arith, nat_tests)) in
      subst (λ (b : ℕ). IsInFrame other (image_of s paper 33 b)) r (subst (λ (a : ℕ). IsInFrame other (image_of s paper a (mark_of (last_row paper) k).1)) c (shows.in_frame k (omega arith)))

  -- the place of the paper that the first mark of the turned page lies over: a pixel off the last mark's centre
  abbrev corner_x : ℤ
  corner_x = last_x -ℤ pos (x_of 0)

  abbrev corner_y : ℤ
  corner_y = last_y paper -ℤ pos (y_of paper 0)

  q-row : q.v ≡ (pos scan.height -ℤ pos 1) -ℤ scan_row s corner_x corner_y
  q-row = let down = down-turned last_x (last_y paper) (pos scan.width -ℤ pos 1) (pos scan.height -ℤ pos 1) s (pos (x_of 0)) in omega (arith, ints, down)

  q-column : q.u ≡ (pos scan.width -ℤ pos 1) -ℤ scan_column s corner_x corner_y
  q-column =
      let right = right-turned last_x (last_y paper) (pos scan.width -ℤ pos 1) (pos scan.height -ℤ pos 1) s q.v in
      let back : (pos scan.height -ℤ pos 1) -ℤ q.v ≡ scan_row s corner_x corner_y = (let row = q-row in omega (arith, ints, row)) in
      let same : right_by s ((pos scan.height -ℤ pos 1) -ℤ q.v) ≡ right_by s (scan_row s corner_x corner_y) = ap (right_by s) back in
      omega (arith, ints, right, same)

  -- it lies within two pixels of the last mark's image
  corner-close : (IsWithin 2 (scan_column s corner_x corner_y -ℤ last.u)) × (IsWithin 2 (scan_row s corner_x corner_y -ℤ last.v))
  corner-close =
      let dx : IsWithin 1 (corner_x -ℤ pos (x_of 33)) = record { low = omega (arith, ints); high = omega (arith, ints) } in
      let dy : IsWithin 1 (corner_y -ℤ pos (y_of paper (last_row paper))) = record { low = omega (arith, ints, height-is paper); high = omega (arith, ints, height-is paper) } in
      let alike = (is-rigid s shows.slant_is).scan corner_x corner_y (pos (x_of 33)) (pos (y_of paper (last_row paper))) (wider 1 64 _ (omega arith) dx) (wider 1 63 _ (omega arith) dy) in
      (sum-within 1 1 _ _ alike.across dx, sum-within 1 1 _ _ alike.down dy)

  -- how far the last mark is from the first
  last-down : (pos (52 * last_row paper) -ℤ pos 25) ≤ℤ (last.v -ℤ (mark_image s paper 0).v)
  last-down =
      let down : IsWithin 25 (down_by s (pos (x_of 33)) -ℤ down_by s (pos (x_of 0))) = down-near s shows.slant_is 25 _ _ (record { low = omega (arith, ints); high = omega (arith, ints) }) in
      omega (arith, ints, down.low)

  last-right : pos 1542 ≤ℤ (last.u -ℤ (mark_image s paper 0).u)
  last-right =
      let down : IsWithin 25 (down_by s (pos (x_of 33)) -ℤ down_by s (pos (x_of 0))) = down-near s shows.slant_is 25 _ _ (record { low = omega (arith, ints); high = omega (arith, ints) }) in
      let few : last_row paper ≤ 51 = last-row_high paper in
      let right : IsWithin 42 (right_by s last.v -ℤ right_by s (mark_image s paper 0).v) =
      right-near s shows.slant_is 42 _ _ (record { low = omega (arith, ints, down.low); high = omega (arith, ints, down.high, few) }) in
      omega (arith, ints, right.low)

  -- so the first mark of the turned page is seen between columns 20 and 430 and rows 8 and 360
  pub q-region : (pos 20 ≤ℤ q.u) × (q.u ≤ℤ pos 430) × (pos 8 ≤ℤ q.v) × (q.v ≤ℤ pos 360)
  q-region =
      let framed = last-framed in
      let close = corner-close in
      let row = q-row in
      let column = q-column in (
        omega (arith, ints, column, close.0.high, framed.right, turned.width),
        omega (arith, ints, column, close.0.low, last-right, start.left, wide),
        omega (arith, ints, row, close.1.high, framed.bottom, turned.height),
        omega (arith, ints, row, close.1.low, last-down, start.top, high),
      )

  -- places where a corner may be show rows above the inner region
  row-high : (u v : ℤ) → pos 3 ≤ℤ u → u ≤ℤ pos 138 → pos 3 ≤ℤ v → v ≤ℤ pos 114 → paper_row t u v <ℤ pos (first_y paper + 130)
  row-high u v a b c d =
      let region = q-region in
      let right : IsWithin 6 (right_by t v -ℤ right_by t q.v) =
      right-near t slant 6 v q.v (record { low = omega (arith, ints, c, region.3); high = omega (arith, ints, d, region.2) }) in
      let first : paper_column t q.u q.v ≡ pos (x_of 0) = paper_column-scan t (pos (x_of 0)) (pos (y_of paper 0)) in
      let row : paper_row t q.u q.v ≡ pos (y_of paper 0) = paper_row-scan t (pos (x_of 0)) (pos (y_of paper 0)) in
      let column : IsWithin 448 (paper_column t u v -ℤ paper_column t q.u q.v) =
      record { low = omega (arith, ints, a, region.1, right.high); high = omega (arith, ints, b, region.0, right.low) } in
      let down : IsWithin 7 (down_by t (paper_column t u v) -ℤ down_by t (paper_column t q.u q.v)) = down-near t slant 7 _ _ column in
      omega (arith, ints, row, down.low, d, region.2)

  region-zone : (p : Point) → IsInCornerRegion p → IsInZone t paper p
  region-zone p in_region = record {
    each = λ u v inside.
        let sides = rectangle-sides (p.u -ℤ pos 23) (p.v -ℤ pos 11) 46 22 u v inside in
        outside_is_zone paper (paper_column t u v) (paper_row t u v)
        (rectangle-outside (pos 178) (pos (first_y paper + 130)) 1344 (52 * last_row paper - 260) (paper_column t u v) (paper_row t u v)
        (inr (inr (inl (row-high u v (omega (arith, ints, sides.0, in_region.left)) (omega (arith, ints, sides.1, in_region.right)) (omega (arith, ints, sides.2, in_region.top)) (omega (arith, ints, sides.3, in_region.bottom)))))));
  }

  -- a mark there is one of the first three of the top row, or the first of the left column
  early : (c r : ℕ) (p : Point) → IsInCornerRegion p → LiesNear 4 2 p (image_of t paper c r) → (c ≤ 2) × (r ≤ 1)
  early c r p in_region near =
      let m : Point = image_of t paper c r in
      let region = q-region in
      let right : IsWithin 6 (right_by t m.v -ℤ right_by t q.v) =
      right-near t slant 6 m.v q.v (record { low = omega (arith, ints, near.down.high, in_region.top, region.3); high = omega (arith, ints, near.down.low, in_region.bottom, region.2) }) in
      let column : 48 * c ≤ 106 = omega (arith, ints, right.low, near.across.low, in_region.right, region.0) in
      let few : c ≤ 2 = omega (arith, column) in
      let down : IsWithin 2 (down_by t (pos (x_of c)) -ℤ down_by t (pos (x_of 0))) =
      down-near t slant 2 _ _ (record { low = omega (arith, ints); high = omega (arith, ints, column) }) in
      let row : 52 * r ≤ 100 = omega (arith, ints, down.low, near.down.low, in_region.bottom, region.2) in
      (few, omega (arith, row))

  -- a chain that begins where a corner may be begins at the first mark of the turned page
  module _ (n : ℕ) (many : 34 ≤ n) (places : List Point) (chain : IsChain scan (last_row paper) n places) (in_region : IsInCornerRegion (point_at places 0)) where
    at-first : (c r : ℕ) → c ≤ 2 → r ≤ 1 → (r ≡ 0) ⊎ (r ≡ last_row paper) ⊎ (c ≡ 0) ⊎ (c ≡ 33) → LiesNear 4 2 (point_at places 0) (image_of t paper c r) → LiesNear 4 2 (point_at places 0) q
    at-first zero zero few low side near = near
    at-first (suc c) zero few low side near = absurd (not-top t slant scan paper turned_marks are shown n many places chain (suc c) (omega arith) (omega (arith, few)) near)
    at-first zero (suc zero) few low side near = absurd (not-below t slant scan paper turned_marks are shown n many places chain near)
    at-first (suc c) (suc zero) few low side near =
        absurd (not-side (last_row paper) (suc c) (suc zero) (last-row_low paper) (omega arith) few (omega arith) low side)
    at-first c (suc (suc r)) few low side near = absurd (omega (arith, low))

    pub turned-chain : n ≤ marks_of paper → LieAtMarks t paper n places
    turned-chain all =
        let mark : Belongs t paper (point_at places 0) =
        accepted-belongs t slant scan paper turned_marks are shown (point_at places 0) (region-zone (point_at places 0) in_region) (chain.accepted 0 (omega (arith, many))) in
        let where_ = early mark.c mark.r (point_at places 0) in_region mark.near in
        chain-near t scan paper turned_marks slant are shown n places all chain (at-first mark.c mark.r where_.0 where_.1 mark.point.side mark.near)
