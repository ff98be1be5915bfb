-- The corner of a search that goes row by row.
use Rattle.std.proofs.Common.{◌≡◌, ◌+◌, ◌-◌, ◌≤◌, ◌<◌, ◌↔◌, inl, inr, ℕ, pos, ◌<ℤ◌, Option, Some, None, arith, ap}
use Rattle.std.proofs.lemmas.Int.{ints, by_lt_z}
use Rattle.std.proofs.lemmas.Bool.{cases_lt}
use Rattle.vx_base.proofs.Integers.{natural-of}
use Rattle.vx_plane.specs.Plane.{Page}
use Rattle.vx_grid.specs.declared.places.Point.{Point}
use Rattle.vx_grid.proofs.MarkPlaces.{same-point}
use Rattle.vx_mark.specs.declared.pixels.Pixel.{Pixel}
use Rattle.vx_mark_model.specs.Mark.{IsAccepted}
use Rattle.vx_mark_model.specs.Corner.{IsInCornerRegion, ComesBefore, IsCorner}
use Rattle.vx_mark.specs.Search.{place_in, place_of, IsPast, IsFirstColumn, IsFirstOf, IsCornerAbove, IsFirstAbove, comes_first}
use Rattle.vx_mark.proofs.Places.{accepted_there}

-- what a search of a row is told of the columns before its end: those of the region whose places come
-- before the corner of the rows above
pub record IsEnd (above : Option Pixel) (past v end : ℕ) : Type 0 where
  pub before : (u : ℕ) → (u < end) ↔ ((u < past) × comes_first above u v)

-- an accepted place of the region in a row stands in a column of the search
pub record IsInColumn (past v : ℕ) (q : Point) : Type 0 where
  pub u : ℕ
  pub is : q ≡ place_in u v
  pub left : 26 ≤ u
  pub right : u < past

in-column : (page : Page) (past v : ℕ) (q : Point) → IsPast (pos 116) 23 page.width past → IsAccepted page q → IsInCornerRegion q → q.v ≡ pos v → IsInColumn past v q
in-column page past v q end good region row =
    let column = natural-of q.u (omega (arith, ints, good.in_frame.left)) in
    let before : q.u <ℤ pos past = (end.holds q.u (omega (arith, ints, good.in_frame.left))).1 (region.right, good.in_frame.right) in
    record {
      u = column.0;
      is = same-point q (place_in column.0 v) column.1 row;
      left = omega (arith, ints, column.1, region.left);
      right = omega (arith, ints, column.1);
    }

-- a place that is found in a row is the corner of the rows up to it
pub corner-some : (page : Page) (above : Option Pixel) (past v end u : ℕ) → IsPast (pos 116) 23 page.width past → 14 ≤ v → v ≤ 104 → IsEnd above past v end → IsFirstAbove page v above → IsFirstColumn page (record { first = 26; past = end }) v u → IsCornerAbove page (v + 1) (record { u = u; v = v })
corner-some page above past v end u limit top bottom is before h =
    let here = (is.before u).0 h.before in
    let right = ((limit.holds (pos u) (omega (arith, ints))).0 (omega (arith, ints, here.0))).0 in
    record {
      accepted = h.accepted;
      in_region = record { left = omega (arith, ints, h.from); right = right; top = omega (arith, ints); bottom = omega (arith, ints) };
      above = omega arith;
      first = λ q good region early first. by_lt_z q.v (pos v)
          (λ l. none-above page above v u q here.1 before good region l first)
          (λ m. none-beside page past v u end q limit h good region (omega (arith, ints)) first);
    }
  where
    none-above : (page : Page) (above : Option Pixel) (v u : ℕ) (q : Point) → comes_first above u v → IsFirstAbove page v above → IsAccepted page q → IsInCornerRegion q → q.v <ℤ pos v → ComesBefore q (place_in u v) → ⊥
    none-above page None v u q less before good region l first = before q good region l
    none-above page (Some pixel) v u q less before good region l first = before.first q good region l (inl (elim first [ inl a ↦ omega (arith, ints) | inr b ↦ omega (arith, ints) ]))

    none-beside : (page : Page) (past v u end : ℕ) (q : Point) → IsPast (pos 116) 23 page.width past → IsFirstColumn page (record { first = 26; past = end }) v u → IsAccepted page q → IsInCornerRegion q → q.v ≡ pos v → ComesBefore q (place_in u v) → ⊥
    none-beside page past v u end q limit h good region row first =
        let at = in-column page past v q limit good region row in
        let column : q.u ≡ pos at.u = ap (λ (p : Point). p.u) at.is in
        h.first at.u at.left (elim first [ inl a ↦ omega (arith, ints) | inr b ↦ absurd (omega (arith, ints)) ]) (accepted_there page q (place_in at.u v) at.is good)

-- where none is found, the corner of the rows above stays
pub corner-none : (page : Page) (above : Option Pixel) (past v end : ℕ) → IsPast (pos 116) 23 page.width past → IsEnd above past v end → IsFirstAbove page v above → IsFirstOf page (record { first = 26; past = end }) v None → IsFirstAbove page (v + 1) above
corner-none page None past v end limit is before none = λ q good region early. by_lt_z q.v (pos v) (before q good region)
    (λ m.
    let at = in-column page past v q limit good region (omega (arith, ints)) in
    none at.u at.left ((is.before at.u).1 (at.right, tt)) (accepted_there page q (place_in at.u v) at.is good))
corner-none page (Some pixel) past v end limit is before none = record {
  accepted = before.accepted;
  in_region = before.in_region;
  above = omega (arith, before.above);
  first = λ q good region early first. by_lt_z q.v (pos v) (λ l. before.first q good region l first)
      (λ m.
      let row : q.v ≡ pos v = omega (arith, ints) in
      let at = in-column page past v q limit good region row in
      let column : q.u ≡ pos at.u = ap (λ (p : Point). p.u) at.is in
      let above : pixel.v < v = before.above in
      elim (cases_lt (at.u + v) (pixel.u + pixel.v)) [
        | inl less ↦ none at.u at.left ((is.before at.u).1 (at.right, less)) (accepted_there page q (place_in at.u v) at.is good)
        | inr more ↦ elim first [ inl a ↦ omega (arith, ints) | inr b ↦ omega (arith, ints) ]
      ]);
}

-- the columns of the search
pub end-most : (page : Page) (past end : ℕ) → IsPast (pos 116) 23 page.width past → end ≤ past → end ≤ 117
end-most page past end limit le =
    elim (cases_lt 117 end) [
      | inl more ↦ omega (arith, ints, ((limit.holds (pos 117) (omega (arith, ints))).0 (omega (arith, ints))).0)
      | inr few ↦ few
    ]

pub end-right : (page : Page) (past end : ℕ) → IsPast (pos 116) 23 page.width past → end ≤ past → 0 < end → end + 23 ≤ page.width + 1
end-right page past end limit le some =
    let last = end - 1 in
    omega (arith, ints, ((limit.holds (pos last) (omega (arith, ints))).0 (omega (arith, ints))).1)

-- a row of the search
pub row-last : (page : Page) (past v : ℕ) → IsPast (pos 104) 11 page.height past → v < past → (v ≤ 104) × (v + 11 ≤ page.height)
row-last page past v limit before =
    let told = (limit.holds (pos v) (omega (arith, ints))).0 (omega (arith, ints)) in
    (omega (arith, ints, told.0), omega (arith, ints, told.1))

-- a place of the region stands above the rows that follow the search
row-above : (page : Page) (past v : ℕ) (q : Point) → IsPast (pos 104) 11 page.height past → past ≤ v → IsAccepted page q → IsInCornerRegion q → q.v <ℤ pos v
row-above page past v q limit end good region =
    let before : q.v <ℤ pos past = (limit.holds q.v (omega (arith, ints, region.top))).1 (region.bottom, good.in_frame.bottom) in
    omega (arith, ints, before, end)

-- the corner of all rows of the search is the corner
pub corner-all : (page : Page) (past v : ℕ) (pixel : Pixel) → IsPast (pos 104) 11 page.height past → past ≤ v → IsCornerAbove page v pixel → IsCorner page (place_of pixel)
corner-all page past v pixel limit end above = record {
  accepted = above.accepted;
  in_region = above.in_region;
  first = λ q good region before. above.first q good region (row-above page past v q limit end good region) before;
}

-- where there is none in them, there is none
pub none-all : (page : Page) (past v : ℕ) → IsPast (pos 104) 11 page.height past → past ≤ v → IsFirstAbove page v None → (q : Point) → IsAccepted page q → IsInCornerRegion q → ⊥
none-all page past v limit end none q good region = none q good region (row-above page past v q limit end good region)
