-- The best place by numbers is the best place.
use Rattle.std.proofs.Common.{◌≡◌, ◌∙◌, ◌+◌, ◌*◌, ◌/◌, ◌%◌, ◌<◌, ◌≤◌, ◌≤ℤ◌, inl, inr, ap, ℕ, ℤ, true, pos, ◌+ℤ◌, ◌-ℤ◌, Option, Some, None, arith, refl, sym, subst, eq-eqb}
use Rattle.std.specs.Prelude.{◌==◌, ◌&&◌, option_map}
use Rattle.std.proofs.lemmas.Int.{ints}
use Rattle.std.proofs.lemmas.Bool.{and_parts, and_from, eqb-true}
use Rattle.vx_base.proofs.Integers.{natural-of}
use Rattle.vx_plane.specs.Plane.{Page}
use Rattle.vx_grid.specs.declared.places.Point.{Point}
use Rattle.vx_grid.proofs.MarkPlaces.{same-point}
use Rattle.vx_mark_model.specs.Region.{is_in}
use Rattle.vx_mark_model.specs.Mark.{deficit_of, IsAccepted, is_accepted}
use Rattle.vx_mark_model.specs.Best.{near, IsNear, IsBetter, IsBest}
use Rattle.vx_scan_model.specs.Border.{near_numbers, near_place, may_be_best, best_of}
use Rattle.vx_scan_model.proofs.Firsts.{IsFirstOf, find-first}
use Rattle.vx_scan_model.proofs.Accepting.{in_from, in_true, accepted_from, accepted_true}

-- the number of a place in the order of places near a predicted one
pub record HasRank (page : Page) (predicted p : Point) (n : ℕ) : Type 0 where
  pub deficit : deficit_of page p ≡ n / 1024
  pub row : p.v ≡ (predicted.v -ℤ pos 6) +ℤ pos (n / 32 % 32)
  pub column : p.u ≡ (predicted.u -ℤ pos 10) +ℤ pos (n % 32)

-- the parts of a number
rank-column : (d r c : ℕ) → r < 32 → c < 32 → (d * 1024 + r * 32 + c) % 32 ≡ c
rank-column d r c row column = omega arith

rank-row : (d r c : ℕ) → r < 32 → c < 32 → (d * 1024 + r * 32 + c) / 32 % 32 ≡ r
rank-row d r c row column = omega arith

rank-deficit : (d r c : ℕ) → r < 32 → c < 32 → (d * 1024 + r * 32 + c) / 1024 ≡ d
rank-deficit d r c row column = omega arith

-- the place of a number is the only place that has it
rank-place : (page : Page) (predicted p : Point) (n : ℕ) → HasRank page predicted p n → p ≡ near_place predicted n
rank-place page predicted p n has = same-point p (near_place predicted n) has.column has.row

-- a deficit, a row and a column make a number
rank-of_parts : (page : Page) (predicted p : Point) (d r c : ℕ) → deficit_of page p ≡ d → p.v ≡ (predicted.v -ℤ pos 6) +ℤ pos r → p.u ≡ (predicted.u -ℤ pos 10) +ℤ pos c → r < 32 → c < 32 → HasRank page predicted p (d * 1024 + r * 32 + c)
rank-of_parts page predicted p d r c deficit row column low narrow = record {
  deficit = rw (rank-deficit d r c low narrow) deficit;
  row = rw (rank-row d r c low narrow) row;
  column = rw (rank-column d r c low narrow) column;
}

-- a number of a place that may be the best, below 21 * 1024
pub record IsRank (page : Page) (predicted p : Point) (n : ℕ) : Type 0 where
  pub has : HasRank page predicted p n
  pub below : n < 21504

-- what lies within a reach above a whole number
above : (low z : ℤ) (reach : ℕ) → low ≤ℤ z → z ≤ℤ (low +ℤ pos reach) → (n : ℕ) × (z ≡ low +ℤ pos n) × (n ≤ reach)
above low z reach from to =
    let gap : (n : ℕ) × (z -ℤ low ≡ pos n) = natural-of (z -ℤ low) (omega (arith, ints)) in
    (gap.0, omega (arith, ints, gap.1), omega (arith, ints, gap.1))

-- each accepted place near the predicted one has a number
rank-of_place : (page : Page) (predicted p : Point) → IsAccepted page p → IsNear predicted p → (n : ℕ) × IsRank page predicted p n
rank-of_place page predicted p good close =
    let row = above (predicted.v -ℤ pos 6) p.v 12 close.top (omega (arith, ints, close.bottom)) in
    let column = above (predicted.u -ℤ pos 10) p.u 20 close.left (omega (arith, ints, close.right)) in
    let few : deficit_of page p ≤ 20 = good.deficit in
    let narrow : column.0 < 32 = omega (arith, column.2) in
    let low : row.0 < 32 = omega (arith, row.2) in (
      deficit_of page p * 1024 + row.0 * 32 + column.0,
      record {
        has = rank-of_parts page predicted p (deficit_of page p) row.0 column.0 refl row.1 column.1 low narrow;
        below = omega (arith, few, row.2, column.2);
      },
    )

-- the order of places is that of their numbers
less-by_deficit : (m n : ℕ) → m / 1024 < n / 1024 → m < n
less-by_deficit m n d = omega arith

less-by_row : (m n : ℕ) → m / 1024 ≡ n / 1024 → m / 32 % 32 < n / 32 % 32 → m < n
less-by_row m n d r = omega arith

less-by_column : (m n : ℕ) → m / 1024 ≡ n / 1024 → m / 32 % 32 ≡ n / 32 % 32 → m % 32 < n % 32 → m < n
less-by_column m n d r c = omega arith

better-rank : (page : Page) (predicted p q : Point) (m n : ℕ) → HasRank page predicted p m → HasRank page predicted q n → IsBetter page p q → m < n
better-rank page predicted p q m n a b better =
    elim better [
      | inl less ↦ less-by_deficit m n (omega (arith, less, a.deficit, b.deficit))
      | inr level ↦ elim level [
        | inl row ↦ less-by_row m n (sym a.deficit ∙ (row.0 ∙ b.deficit)) (omega (arith, ints, row.1, a.row, b.row))
        | inr column ↦ less-by_column m n (sym a.deficit ∙ (column.0 ∙ b.deficit)) (omega (arith, ints, column.1, a.row, b.row)) (omega (arith, ints, column.2, a.column, b.column))
      ]
    ]

-- what a number says that passes
pub record IsChoice (page : Page) (predicted : Point) (n : ℕ) : Type 0 where
  pub accepted : IsAccepted page (near_place predicted n)
  pub near : IsNear predicted (near_place predicted n)
  pub rank : HasRank page predicted (near_place predicted n) n

passes-choice : (page : Page) (predicted : Point) (n : ℕ) → may_be_best page predicted n ≡ true → IsChoice page predicted n
passes-choice page predicted n passes =
    let parts = and_parts (is_in (near predicted) (near_place predicted n)) (is_accepted page (near_place predicted n) && deficit_of page (near_place predicted n) == n / 1024) passes in
    let place = and_parts (is_accepted page (near_place predicted n)) (deficit_of page (near_place predicted n) == n / 1024) parts.1 in
    record {
      accepted = accepted_from page (near_place predicted n) place.0;
      near = in_from (near predicted) (near_place predicted n) parts.0;
      rank = record {
        deficit = eqb-true (deficit_of page (near_place predicted n)) (n / 1024) place.1;
        row = refl;
        column = refl;
      };
    }

-- and the number of each such place passes
place-passes : (page : Page) (predicted p : Point) (n : ℕ) → IsRank page predicted p n → IsAccepted page p → IsNear predicted p → may_be_best page predicted n ≡ true
place-passes page predicted p n rank good close =
    let same = rank-place page predicted p n rank.has in
    let fine : IsAccepted page (near_place predicted n) = subst (IsAccepted page) same good in
    let there : IsNear predicted (near_place predicted n) = subst (IsNear predicted) same close in
    let deficit : deficit_of page (near_place predicted n) ≡ n / 1024 = ap (deficit_of page) (sym same) ∙ rank.has.deficit in
    and_from (is_in (near predicted) (near_place predicted n)) (is_accepted page (near_place predicted n) && deficit_of page (near_place predicted n) == n / 1024)
    (in_true (near predicted) (near_place predicted n) there)
    (and_from (is_accepted page (near_place predicted n)) (deficit_of page (near_place predicted n) == n / 1024)
    (accepted_true page (near_place predicted n) fine)
    (eq-eqb (deficit_of page (near_place predicted n)) (n / 1024) deficit))

-- the best place near a predicted one, or that there is none
abbrev pub IsBestOf : Page → Point → Option Point → Type 0
IsBestOf page predicted None = (p : Point) → IsBest page predicted p → ⊥
IsBestOf page predicted (Some p) = IsBest page predicted p

-- the first number that passes is that of the best place
first-best : (page : Page) (predicted : Point) (end : ℕ) (first : Option ℕ) → 21504 ≤ end → IsFirstOf (may_be_best page predicted) 0 end first → IsBestOf page predicted (option_map (near_place predicted) first)
first-best page predicted end None most h = λ p best.
    let ranked = rank-of_place page predicted p best.accepted best.near in
    h ranked.0 (omega arith) (omega (arith, ranked.1.below)) (place-passes page predicted p ranked.0 ranked.1 best.accepted best.near)
first-best page predicted end (Some n) most h =
    let choice = passes-choice page predicted n h.passes in
    record {
      accepted = choice.accepted;
      near = choice.near;
      best = λ q good close better.
          let ranked = rank-of_place page predicted q good close in
          let earlier : ranked.0 < n = better-rank page predicted q (near_place predicted n) ranked.0 n ranked.1.has choice.rank better in
          h.first ranked.0 (omega arith) earlier (place-passes page predicted q ranked.0 ranked.1 good close);
    }

numbers-many : 21504 ≤ near_numbers
unfolding near_numbers
numbers-many = omega arith

-- the best place by numbers is the best place
pub IsBestOf-best_of : (page : Page) (predicted : Point) → IsBestOf page predicted (best_of page predicted)
unfolding best_of
IsBestOf-best_of page predicted = first-best page predicted near_numbers _ numbers-many (find-first (may_be_best page predicted) 0 near_numbers near_numbers (omega arith))

-- where an accepted place lies near a predicted one, there is a best one
best-some : (page : Page) (predicted : Point) (end : ℕ) (first : Option ℕ) → 21504 ≤ end → IsFirstOf (may_be_best page predicted) 0 end first
    → (p : Point) → IsAccepted page p → IsNear predicted p → (q : Point) × IsBest page predicted q
best-some page predicted end None most h p good close =
    let ranked = rank-of_place page predicted p good close in
    absurd (h ranked.0 (omega arith) (omega (arith, ranked.1.below)) (place-passes page predicted p ranked.0 ranked.1 good close))
best-some page predicted end (Some n) most h p good close = (near_place predicted n, first-best page predicted end (Some n) most h)

pub best-exists : (page : Page) (predicted p : Point) → IsAccepted page p → IsNear predicted p → (q : Point) × IsBest page predicted q
best-exists page predicted = best-some page predicted near_numbers _ numbers-many (find-first (may_be_best page predicted) 0 near_numbers near_numbers (omega arith))
