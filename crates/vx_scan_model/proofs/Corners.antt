-- The corner by numbers is the corner.
use Rattle.std.proofs.Common.{◌≡◌, ◌+◌, ◌*◌, ◌/◌, ◌%◌, ◌<◌, ◌≤◌, inl, inr, ℕ, true, pos, ◌+ℤ◌, Option, Some, None, arith, refl, subst}
use Rattle.std.specs.Prelude.{option_map}
use Rattle.std.proofs.lemmas.Int.{ints}
use Rattle.std.proofs.lemmas.Nat.{div-mul-add, mod-mul-add}
use Rattle.std.proofs.lemmas.Bool.{and_parts, and_from}
use Rattle.vx_base.proofs.Integers.{natural-of}
use Rattle.vx_plane.specs.Plane.{Page}
use Rattle.vx_grid.specs.declared.places.Point.{Point}
use Rattle.vx_grid.proofs.MarkPlaces.{same-point}
use Rattle.vx_mark_model.specs.Mark.{IsAccepted}
use Rattle.vx_mark_model.specs.Corner.{corner_region, IsInCornerRegion, ComesBefore, IsCorner}
use Rattle.vx_scan_model.specs.Border.{corner_numbers, corner_place, may_be_corner, corner_of}
use Rattle.vx_scan_model.proofs.Firsts.{IsFirstOf, find-first}
use Rattle.vx_scan_model.proofs.Accepting.{in_from, in_true, accepted_from, accepted_true}

-- the number of a place in the order of corners
pub record HasNumber (p : Point) (n : ℕ) : Type 0 where
  pub sum : p.u +ℤ p.v ≡ pos (n / 128)
  pub row : p.v ≡ pos (n % 128)

-- the place of a number has it
place-number : (n : ℕ) → HasNumber (corner_place n) n
place-number n = record { sum = omega (arith, ints); row = refl }

-- and is the only place that has it
number-place : (p : Point) (n : ℕ) → HasNumber p n → p ≡ corner_place n
number-place p n has = same-point p (corner_place n) (omega (arith, ints, has.sum, has.row)) has.row

-- a sum and a row make a number
number-of_sum : (p : Point) (sum row : ℕ) → p.u +ℤ p.v ≡ pos sum → p.v ≡ pos row → row < 128 → HasNumber p (sum * 128 + row)
number-of_sum p sum row s r below = record {
  sum = rw (div-mul-add sum 128 row below) s;
  row = rw (mod-mul-add sum 128 row below) r;
}

-- each place of the region has a number below 221 * 128
number-of_place : (p : Point) → IsInCornerRegion p → (n : ℕ) × HasNumber p n × (n < 28288)
number-of_place p region =
    let sum : (n : ℕ) × (p.u +ℤ p.v ≡ pos n) = natural-of (p.u +ℤ p.v) (omega (arith, ints, region.left, region.top)) in
    let row : (n : ℕ) × (p.v ≡ pos n) = natural-of p.v (omega (arith, ints, region.top)) in
    let low : row.0 ≤ 104 = omega (arith, ints, region.bottom, row.1) in
    let most : sum.0 ≤ 220 = omega (arith, ints, region.bottom, region.right, sum.1) in
    (sum.0 * 128 + row.0, number-of_sum p sum.0 row.0 sum.1 row.1 (omega arith), omega arith)

-- the order of places is that of their numbers
before-number : (p q : Point) (m n : ℕ) → HasNumber p m → HasNumber q n → ComesBefore p q → m < n
before-number p q m n a b before =
    elim before [
      | inl less ↦
          let sums : m / 128 < n / 128 = omega (arith, ints, less, a.sum, b.sum) in
          omega arith
      | inr level ↦
          let sums : m / 128 ≡ n / 128 = omega (arith, ints, level.0, a.sum, b.sum) in
          let rows : m % 128 < n % 128 = omega (arith, ints, level.1, a.row, b.row) in
          omega arith
    ]

-- a number that passes is that of an accepted place of the region
passes-place : (page : Page) (n : ℕ) → may_be_corner page n ≡ true → IsAccepted page (corner_place n) × IsInCornerRegion (corner_place n)
passes-place page n passes =
    let parts = and_parts _ _ passes in
    (accepted_from page (corner_place n) parts.1, in_from corner_region (corner_place n) parts.0)

-- and the number of each such place passes
place-passes : (page : Page) (p : Point) (n : ℕ) → HasNumber p n → IsAccepted page p → IsInCornerRegion p → may_be_corner page n ≡ true
place-passes page p n has good region =
    let same = number-place p n has in
    let there : IsInCornerRegion (corner_place n) = subst IsInCornerRegion same region in
    let fine : IsAccepted page (corner_place n) = subst (IsAccepted page) same good in
    and_from _ _ (in_true corner_region (corner_place n) there) (accepted_true page (corner_place n) fine)

-- the corner, or that there is none
abbrev pub IsCornerOf : Page → Option Point → Type 0
IsCornerOf page None = (p : Point) → IsCorner page p → ⊥
IsCornerOf page (Some p) = IsCorner page p

-- the first number that passes is that of the corner
first-corner : (page : Page) (end : ℕ) (first : Option ℕ) → 28288 ≤ end → IsFirstOf (may_be_corner page) 0 end first → IsCornerOf page (option_map corner_place first)
first-corner page end None most h = λ p corner.
    let numbered = number-of_place p corner.in_region in
    h numbered.0 (omega arith) (omega (arith, numbered.2)) (place-passes page p numbered.0 numbered.1 corner.accepted corner.in_region)
first-corner page end (Some n) most h =
    let place = passes-place page n h.passes in
    record {
      accepted = place.0;
      in_region = place.1;
      first = λ q good region before.
          let numbered = number-of_place q region in
          let earlier : numbered.0 < n = before-number q (corner_place n) numbered.0 n numbered.1 (place-number n) before in
          h.first numbered.0 (omega arith) earlier (place-passes page q numbered.0 numbered.1 good region);
    }

numbers-many : 28288 ≤ corner_numbers
unfolding corner_numbers
numbers-many = omega arith

-- the corner by numbers is the corner
pub IsCornerOf-corner_of : (page : Page) → IsCornerOf page (corner_of page)
unfolding corner_of
IsCornerOf-corner_of page = first-corner page corner_numbers _ numbers-many (find-first (may_be_corner page) 0 corner_numbers corner_numbers (omega arith))

-- where an accepted place lies in the region, there is a corner
corner-some : (page : Page) (end : ℕ) (first : Option ℕ) → 28288 ≤ end → IsFirstOf (may_be_corner page) 0 end first
    → (p : Point) → IsAccepted page p → IsInCornerRegion p → (q : Point) × IsCorner page q
corner-some page end None most h p good region =
    let numbered = number-of_place p region in
    absurd (h numbered.0 (omega arith) (omega (arith, numbered.2)) (place-passes page p numbered.0 numbered.1 good region))
corner-some page end (Some n) most h p good region = (corner_place n, first-corner page end (Some n) most h)

pub corner-exists : (page : Page) (p : Point) → IsAccepted page p → IsInCornerRegion p → (q : Point) × IsCorner page q
corner-exists page = corner-some page corner_numbers _ numbers-many (find-first (may_be_corner page) 0 corner_numbers corner_numbers (omega arith))
