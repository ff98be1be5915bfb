-- From a mark to the next one, and to the first.
use Rattle.std.proofs.Common.{◌≡◌, inl, ℕ, ◌+◌, ◌-◌, ◌*◌, ◌≤◌, false, ℤ, pos, ◌+ℤ◌, ◌-ℤ◌, ◌≤ℤ◌, ◌<ℤ◌, refl, subst, arith}
use Rattle.std.proofs.lemmas.Int.{ints, by_lt_z}
use Rattle.vx_plane.specs.Plane.{Pixels, Page}
use Rattle.vx_plane.proofs.Pages.{rectangle-sides, rectangle-outside}
use Rattle.vx_grid.specs.declared.paper.Paper.{Paper}
use Rattle.vx_grid.specs.declared.places.Point.{Point}
use Rattle.vx_grid.specs.Paper.{last_row, first_y}
use Rattle.vx_grid.specs.Places.{IsWithin}
use Rattle.vx_grid.specs.Grid.{x_of, y_of}
use Rattle.vx_grid.specs.Regions.{inner_region}
use Rattle.vx_mark_model.specs.Mark.{IsInFrame, IsAccepted}
use Rattle.vx_mark_model.specs.Corner.{IsCorner, IsInCornerRegion}
use Rattle.vx_mark_model.specs.Best.{IsNear}
use Rattle.vx_mark_model.specs.Following.{right_of, below}
use Rattle.vx_geom.specs.Slants.{Slant, IsSlant, paper_column, paper_row}
use Rattle.vx_geom.proofs.Ways.{is-rigid, paper_column-scan, paper_row-scan}
use Rattle.vx_margin.specs.Marks.{IsBorderPoint, AreMarks, image_of, LiesNear, Belongs}
use Rattle.vx_margin.specs.Shown.{ShowsMarks, ShowsBorder, IsInZone, IsInStartRegion}
use Rattle.vx_margin.specs.Laws.{IsExpectedNear}
use Rattle.vx_margin.proofs.Found.{wider, sum-within, accepted-belongs}
use Rattle.vx_margin.proofs.Images.{IsOnBorderLine, near-IsInZone, images-clear, outside_is_zone}

module _ (s : Slant) (slant : IsSlant s) (paper : Paper) where
  -- the images of grid points that are a column or a row apart
  pub right-predicted : (p : Point) (c r : ℕ) → LiesNear 4 2 p (image_of s paper c r) → IsExpectedNear (right_of p) (image_of s paper (c + 1) r)
  right-predicted p c r near =
      let alike = (is-rigid s slant).scan (pos (x_of (c + 1))) (pos (y_of paper r)) (pos (x_of c)) (pos (y_of paper r))
      (record { low = omega (arith, ints); high = omega (arith, ints) }) (record { low = omega (arith, ints); high = omega (arith, ints) }) in
      record {
        across = record { low = omega (arith, ints, near.across.low, alike.across.high); high = omega (arith, ints, near.across.high, alike.across.low) };
        down = record { low = omega (arith, ints, near.down.low, alike.down.high); high = omega (arith, ints, near.down.high, alike.down.low) };
      }

  pub below-predicted : (p : Point) (c r : ℕ) → LiesNear 4 2 p (image_of s paper c r) → IsExpectedNear (below p) (image_of s paper c (r + 1))
  below-predicted p c r near =
      let alike = (is-rigid s slant).scan (pos (x_of c)) (pos (y_of paper (r + 1))) (pos (x_of c)) (pos (y_of paper r))
      (record { low = omega (arith, ints); high = omega (arith, ints) }) (record { low = omega (arith, ints); high = omega (arith, ints) }) in
      record {
        across = record { low = omega (arith, ints, near.across.low, alike.across.high); high = omega (arith, ints, near.across.high, alike.across.low) };
        down = record { low = omega (arith, ints, near.down.low, alike.down.high); high = omega (arith, ints, near.down.high, alike.down.low) };
      }

  -- images that lie near each other are of one grid point
  pub one-point : (c r d t : ℕ) → LiesNear 19 11 (image_of s paper c r) (image_of s paper d t) → (c ≡ d) × (r ≡ t)
  one-point c r d t near =
      let p : Point = image_of s paper c r in
      let q : Point = image_of s paper d t in
      let alike = (is-rigid s slant).paper p.u p.v q.u q.v (wider 19 63 _ (omega arith) near.across) (wider 11 64 _ (omega arith) near.down) in
      let pc : paper_column s p.u p.v ≡ pos (x_of c) = paper_column-scan s (pos (x_of c)) (pos (y_of paper r)) in
      let pr : paper_row s p.u p.v ≡ pos (y_of paper r) = paper_row-scan s (pos (x_of c)) (pos (y_of paper r)) in
      let qc : paper_column s q.u q.v ≡ pos (x_of d) = paper_column-scan s (pos (x_of d)) (pos (y_of paper t)) in
      let qr : paper_row s q.u q.v ≡ pos (y_of paper t) = paper_row-scan s (pos (x_of d)) (pos (y_of paper t)) in
      let across : IsWithin 20 (paper_column s p.u p.v -ℤ paper_column s q.u q.v) = sum-within 1 19 _ _ alike.across near.across in
      let down : IsWithin 12 (paper_row s p.u p.v -ℤ paper_row s q.u q.v) = sum-within 1 11 _ _ alike.down near.down in
      (omega (arith, ints, across.low, across.high, pc, qc), omega (arith, ints, down.low, down.high, pr, qr))

pub near-from : (n m k l : ℕ) (p q o : Point) → LiesNear n m p q → LiesNear k l q o → LiesNear (n + k) (m + l) p o
near-from n m k l p q o a b = record {
  across = record { low = omega (arith, ints, a.across.low, b.across.low); high = omega (arith, ints, a.across.high, b.across.high) };
  down = record { low = omega (arith, ints, a.down.low, b.down.low); high = omega (arith, ints, a.down.high, b.down.high) };
}

pub near-back : (n m : ℕ) (p q : Point) → LiesNear n m p q → LiesNear n m q p
near-back n m p q a = record {
  across = record { low = omega (arith, ints, a.across.high); high = omega (arith, ints, a.across.low) };
  down = record { low = omega (arith, ints, a.down.high); high = omega (arith, ints, a.down.low) };
}

pub is-near : (predicted p : Point) → IsNear predicted p → LiesNear 10 6 p predicted
is-near predicted p near = record {
  across = record { low = omega (arith, ints, near.left); high = omega (arith, ints, near.right) };
  down = record { low = omega (arith, ints, near.top); high = omega (arith, ints, near.bottom) };
}

near-is : (predicted p : Point) → LiesNear 5 3 predicted p → IsNear predicted p
near-is predicted p near = record {
  left = omega (arith, ints, near.across.high);
  right = omega (arith, ints, near.across.low);
  top = omega (arith, ints, near.down.high);
  bottom = omega (arith, ints, near.down.low);
}

module _ (s : Slant) (slant : IsSlant s) (scan : Page) (paper : Paper) (marks : Pixels) (are : AreMarks paper marks) (shows : ShowsMarks s scan paper marks) where
  -- an accepted place near where a mark is expected belongs to that mark
  pub accepted-at : (c r : ℕ) → c ≤ 34 → r ≤ last_row paper + 1 → IsOnBorderLine paper c r → (predicted p : Point)
      → LiesNear 5 3 predicted (image_of s paper c r) → IsAccepted scan p → IsNear predicted p
      → IsBorderPoint paper c r × LiesNear 4 2 p (image_of s paper c r)
  accepted-at c r few low line predicted p at accepted near =
      let close : LiesNear 15 9 p (image_of s paper c r) = near-from 10 6 5 3 p predicted _ (is-near predicted p near) at in
      let zone : IsInZone s paper p = near-IsInZone s slant paper c r few low line p close in
      let mark : Belongs s paper p = accepted-belongs s slant scan paper marks are shows p zone accepted in
      let images : LiesNear 19 11 (image_of s paper mark.c mark.r) (image_of s paper c r) =
      near-from 4 2 15 9 _ p _ (near-back 4 2 p _ mark.near) close in
      let same = one-point s slant paper mark.c mark.r c r images in
      let Point-at : ℕ → ℕ → Type 0 = λ a b. IsBorderPoint paper a b × LiesNear 4 2 p (image_of s paper a b) in
      let At : ℕ → Type 0 = λ a. Point-at a mark.r in
      let There : ℕ → Type 0 = λ b. Point-at c b in
      subst There same.1 (subst At same.0 (mark.point, mark.near))

  -- and there is one
  pub accepted-near : (c r : ℕ) → IsBorderPoint paper c r → IsInFrame scan (image_of s paper c r) → (predicted : Point)
      → LiesNear 5 3 predicted (image_of s paper c r)
      → IsAccepted scan (image_of s paper c r) × IsNear predicted (image_of s paper c r)
  accepted-near c r point framed predicted at =
      ((images-clear s scan paper marks c r slant are point).accepted shows framed, near-is predicted _ at)

-- a column of the paper left of the inner region
pub left-of-inner : (paper : Paper) (x y : ℤ) → x <ℤ pos 178 → inner_region paper x y ≡ false
left-of-inner paper x y h = rectangle-outside (pos 178) (pos (first_y paper + 130)) 1344 (52 * last_row paper - 260) x y (inl h)

-- the corner of a scan belongs to the first mark
module _ (s : Slant) (scan : Page) (paper : Paper) (marks : Pixels) (shows : ShowsBorder s scan paper marks) (start : IsInStartRegion (image_of s paper 0 0)) where
  abbrev first : Point
  first = image_of s paper 0 0

  first-point : IsBorderPoint paper 0 0
  first-point = record { column = omega arith; row = omega arith; side = inl refl }

  pub corner-apart : (p : Point) → IsInCornerRegion p → LiesNear 86 86 p first
  corner-apart p region = record {
    across = record { low = omega (arith, ints, region.left, start.right); high = omega (arith, ints, region.right, start.left) };
    down = record { low = omega (arith, ints, region.top, start.bottom); high = omega (arith, ints, region.bottom, start.top) };
  }

  -- places near the first mark's image show columns left of the inner region
  shows-left : (u v : ℤ) → IsWithin 109 (u -ℤ first.u) → IsWithin 97 (v -ℤ first.v) → paper_column s u v <ℤ pos 178
  shows-left u v a b =
      let alike = (is-rigid s shows.slant_is).paper_twice u v first.u first.v (wider 109 126 _ (omega arith) a) (wider 97 128 _ (omega arith) b) in
      let column : paper_column s first.u first.v ≡ pos (x_of 0) = paper_column-scan s (pos (x_of 0)) (pos (y_of paper 0)) in
      let across : IsWithin 111 (paper_column s u v -ℤ paper_column s first.u first.v) = sum-within 2 109 _ _ alike.across a in
      omega (arith, ints, across.high, column)

  pub corner-zone : (p : Point) → IsInCornerRegion p → IsInZone s paper p
  corner-zone p region = record {
    each = λ u v inside.
        let sides = rectangle-sides (p.u -ℤ pos 23) (p.v -ℤ pos 11) 46 22 u v inside in
        let apart = corner-apart p region in
        let across : IsWithin 109 (u -ℤ first.u) = record { low = omega (arith, ints, apart.across.low, sides.0); high = omega (arith, ints, apart.across.high, sides.1) } in
        let down : IsWithin 97 (v -ℤ first.v) = record { low = omega (arith, ints, apart.down.low, sides.2); high = omega (arith, ints, apart.down.high, sides.3) } in
        outside_is_zone paper (paper_column s u v) (paper_row s u v) (left-of-inner paper (paper_column s u v) (paper_row s u v) (shows-left u v across down));
  }

  pub first-in-region : IsInCornerRegion first
  first-in-region = record {
    left = omega (arith, ints, start.left);
    right = omega (arith, ints, start.right);
    top = omega (arith, ints, start.top);
    bottom = omega (arith, ints, start.bottom);
  }

  pub first-accepted : IsAccepted scan first
  first-accepted = (images-clear s scan paper marks 0 0 shows.slant_is shows.marks_are first-point).accepted shows.shows (shows.in_frame 0 (omega arith))

  -- a mark to which a place near the first mark's image belongs, with no greater sum, is the first
  sums : (c r : ℕ) (p : Point) → LiesNear 86 86 p first → LiesNear 4 2 p (image_of s paper c r) → (p.u +ℤ p.v) ≤ℤ (first.u +ℤ first.v) → (c ≡ 0) × (r ≡ 0)
  sums c r p apart near sum =
      let q : Point = image_of s paper c r in
      let far : LiesNear 90 88 q first = near-from 4 2 86 86 q p first (near-back 4 2 p q near) apart in
      let alike = (is-rigid s shows.slant_is).paper_twice q.u q.v first.u first.v (wider 90 126 _ (omega arith) far.across) (wider 88 128 _ (omega arith) far.down) in
      let qc : paper_column s q.u q.v ≡ pos (x_of c) = paper_column-scan s (pos (x_of c)) (pos (y_of paper r)) in
      let qr : paper_row s q.u q.v ≡ pos (y_of paper r) = paper_row-scan s (pos (x_of c)) (pos (y_of paper r)) in
      let fc : paper_column s first.u first.v ≡ pos (x_of 0) = paper_column-scan s (pos (x_of 0)) (pos (y_of paper 0)) in
      let fr : paper_row s first.u first.v ≡ pos (y_of paper 0) = paper_row-scan s (pos (x_of 0)) (pos (y_of paper 0)) in
      let right : (pos (48 * c) -ℤ pos 2) ≤ℤ (q.u -ℤ first.u) = omega (arith, ints, alike.across.high, qc, fc) in
      let down : (pos (52 * r) -ℤ pos 2) ≤ℤ (q.v -ℤ first.v) = omega (arith, ints, alike.down.high, qr, fr) in
      let low : 48 * c + 52 * r ≤ 10 = omega (arith, ints, right, down, near.across.low, near.down.low, sum) in
      (omega (arith, low), omega (arith, low))

  pub corner-near : (p : Point) → IsCorner scan p → LiesNear 4 2 p first
  corner-near p corner =
      let mark : Belongs s paper p = accepted-belongs s shows.slant_is scan paper marks shows.marks_are shows.shows p (corner-zone p corner.in_region) corner.accepted in
      let sum : (p.u +ℤ p.v) ≤ℤ (first.u +ℤ first.v) =
      by_lt_z (first.u +ℤ first.v) (p.u +ℤ p.v) (λ before. absurd (corner.first first first-accepted first-in-region (inl before))) (λ after. after) in
      let same = sums mark.c mark.r p (corner-apart p corner.in_region) mark.near sum in
      let At : ℕ → Type 0 = λ a. LiesNear 4 2 p (image_of s paper a mark.r) in
      let There : ℕ → Type 0 = λ b. LiesNear 4 2 p (image_of s paper 0 b) in
      subst There same.1 (subst At same.0 mark.near)
