-- A chain of places that begins where a corner may be begins at the first mark.
use Rattle.std.proofs.Common.{◌≡◌, ◌⊎◌, ℕ, zero, suc, ◌*◌, ◌≤◌, List, pos, ◌-ℤ◌, ◌≤ℤ◌, arith}
use Rattle.std.proofs.lemmas.Int.{ints}
use Rattle.vx_plane.specs.Plane.{Pixels, Page}
use Rattle.vx_grid.specs.declared.paper.Paper.{Paper}
use Rattle.vx_grid.specs.declared.places.Point.{Point}
use Rattle.vx_grid.specs.Paper.{last_row}
use Rattle.vx_grid.specs.Grid.{x_of, y_of}
use Rattle.vx_grid.specs.Marks.{marks as marks_of}
use Rattle.vx_grid.specs.Places.{point_at}
use Rattle.vx_mark_model.specs.Corner.{IsInCornerRegion}
use Rattle.vx_geom.specs.Slants.{Slant, paper_column, paper_row}
use Rattle.vx_geom.proofs.Ways.{is-rigid, paper_column-scan, paper_row-scan}
use Rattle.vx_grid.proofs.Papers.{last-row_low}
use Rattle.vx_margin.specs.Marks.{mark_image, image_of, LiesNear, Belongs}
use Rattle.vx_margin.specs.Shown.{ShowsBorder, IsInStartRegion}
use Rattle.vx_margin.specs.Chains.{IsChain, LieAtMarks}
use Rattle.vx_margin.proofs.Found.{wider, accepted-belongs}
use Rattle.vx_margin.proofs.Steps.{near-from, near-back, corner-apart, corner-zone}
use Rattle.vx_margin.proofs.Chains.{chain-near}
use Rattle.vx_margin.proofs.Ends.{not-side, not-top, not-below}

module _ (s : Slant) (scan : Page) (paper : Paper) (marks : Pixels) (shows : ShowsBorder s scan paper marks) (start : IsInStartRegion (image_of s paper 0 0)) where
  abbrev first : Point
  first = image_of s paper 0 0

  -- a mark where a corner may be stands in the first two columns and rows
  early : (c r : ℕ) (p : Point) → IsInCornerRegion p → LiesNear 4 2 p (image_of s paper c r) → (c ≤ 1) × (r ≤ 1)
  early c r p in_region near =
      let q : Point = image_of s paper c r in
      let far : LiesNear 90 88 q first = near-from 4 2 86 86 q p first (near-back 4 2 p q near) (corner-apart s scan paper marks shows start p in_region) in
      let alike = (is-rigid s shows.slant_is).paper_twice q.u q.v first.u first.v (wider 90 126 _ (omega arith) far.across) (wider 88 128 _ (omega arith) far.down) in
      let qc : paper_column s q.u q.v ≡ pos (x_of c) = paper_column-scan s (pos (x_of c)) (pos (y_of paper r)) in
      let qr : paper_row s q.u q.v ≡ pos (y_of paper r) = paper_row-scan s (pos (x_of c)) (pos (y_of paper r)) in
      let fc : paper_column s first.u first.v ≡ pos (x_of 0) = paper_column-scan s (pos (x_of 0)) (pos (y_of paper 0)) in
      let fr : paper_row s first.u first.v ≡ pos (y_of paper 0) = paper_row-scan s (pos (x_of 0)) (pos (y_of paper 0)) in
      let right : (pos (48 * c) -ℤ pos 2) ≤ℤ (q.u -ℤ first.u) = omega (arith, ints, alike.across.high, qc, fc) in
      let down : (pos (52 * r) -ℤ pos 2) ≤ℤ (q.v -ℤ first.v) = omega (arith, ints, alike.down.high, qr, fr) in
      let column : 48 * c ≤ 92 = omega (arith, ints, right, far.across.high) in
      let row : 52 * r ≤ 90 = omega (arith, ints, down, far.down.high) in
      (omega (arith, column), omega (arith, row))

  module _ (n : ℕ) (many : 34 ≤ n) (places : List Point) (chain : IsChain scan (last_row paper) n places) (in_region : IsInCornerRegion (point_at places 0)) where
    at-first : (c r : ℕ) → c ≤ 1 → r ≤ 1 → (r ≡ 0) ⊎ (r ≡ last_row paper) ⊎ (c ≡ 0) ⊎ (c ≡ 33) → LiesNear 4 2 (point_at places 0) (image_of s paper c r) → LiesNear 4 2 (point_at places 0) first
    at-first zero zero few low side near = near
    at-first (suc c) zero few low side near = absurd (not-top s shows.slant_is scan paper marks shows.marks_are shows.shows n many places chain (suc c) (omega arith) (omega (arith, few)) near)
    at-first zero (suc zero) few low side near = absurd (not-below s shows.slant_is scan paper marks shows.marks_are shows.shows n many places chain near)
    at-first (suc c) (suc zero) few low side near =
        absurd (not-side (last_row paper) (suc c) (suc zero) (last-row_low paper) (omega arith) (omega (arith, few)) (omega arith) low side)
    at-first c (suc (suc r)) few low side near = absurd (omega (arith, low))

    first-near : LiesNear 4 2 (point_at places 0) first
    first-near =
        let mark : Belongs s paper (point_at places 0) =
        accepted-belongs s shows.slant_is scan paper marks shows.marks_are shows.shows (point_at places 0) (corner-zone s scan paper marks shows start (point_at places 0) in_region) (chain.accepted 0 (omega (arith, many))) in
        let within = early mark.c mark.r (point_at places 0) in_region mark.near in
        at-first mark.c mark.r within.0 within.1 mark.point.side mark.near

    pub corner-chain : n ≤ marks_of paper → LieAtMarks s paper n places
    corner-chain all = chain-near s scan paper marks shows.slant_is shows.marks_are shows.shows n places all chain first-near

pub corner-chains : (s : Slant) (scan : Page) (paper : Paper) (marks : Pixels) (n : ℕ) (places : List Point)
    → ShowsBorder s scan paper marks → IsInStartRegion (mark_image s paper 0) → 34 ≤ n → n ≤ marks_of paper
    → IsChain scan (last_row paper) n places → IsInCornerRegion (point_at places 0) → LieAtMarks s paper n places
corner-chains s scan paper marks n places shows start many all chain in_region = corner-chain s scan paper marks shows start n many places chain in_region all
