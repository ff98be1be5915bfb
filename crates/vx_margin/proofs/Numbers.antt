-- The numbers of the timing marks.
use Rattle.std.proofs.Common.{◌≡◌, ◌⊎◌, ⊎_elim, inl, inr, ℕ, zero, suc, ◌+◌, ◌-◌, ◌*◌, ◌≤◌, ◌<◌, true, false, arith}
use Rattle.std.proofs.lemmas.Bool.{cases_lt}
use Rattle.std.proofs.lemmas.Bool.Decides.{nat_tests}
use Rattle.vx_grid.specs.declared.paper.Paper.{Paper}
use Rattle.vx_grid.specs.Paper.{last_row}
use Rattle.vx_grid.specs.Marks.{marks, marks_to, mark_of}
use Rattle.vx_grid.proofs.Papers.{last-row_low}
use Rattle.vx_grid.proofs.MarkPlaces.{mark-column, mark-row}
use Rattle.vx_mark_model.specs.Following.{is_in_row, leader_of}
use Rattle.vx_fit.specs.Fit.{left_mark, right_mark}
use Rattle.vx_margin.specs.Marks.{IsBorderPoint}

right-mark : (last k : ℕ) → 34 ≤ k → k < 34 + last → mark_of last k ≡ (33, k - 33)
right-mark last k h g = grind (arith, nat_tests)

left-mark : (last k : ℕ) → 34 + last ≤ k → k < 34 + 2 * last → mark_of last k ≡ (0, k - (33 + last))
left-mark last k h g = grind (arith, nat_tests)

-- a mark of a row stands right of the one that leads to it
pub mark-right : (last k : ℕ) → 40 ≤ last → 0 < k → is_in_row last k ≡ true
    → ((mark_of last k).0 ≡ (mark_of last (leader_of last k)).0 + 1) × ((mark_of last k).1 ≡ (mark_of last (leader_of last k)).1)
mark-right last k many some row = (grind (arith, nat_tests), grind (arith, nat_tests))

-- a mark of a column stands below the one that leads to it
pub mark-below : (last k : ℕ) → 40 ≤ last → 0 < k → is_in_row last k ≡ false
    → ((mark_of last k).0 ≡ (mark_of last (leader_of last k)).0) × ((mark_of last k).1 ≡ (mark_of last (leader_of last k)).1 + 1)
mark-below last k many some column = (grind (arith, nat_tests), grind (arith, nat_tests))

cases_of : {P : Type 0} (last k : ℕ) → (k < 34 → P) → (34 ≤ k → k < 34 + last → P) → (34 + last ≤ k → k < 34 + 2 * last → P) → (34 + 2 * last ≤ k → P) → P
cases_of last k top right left bottom =
    ⊎_elim top
    (λ a. ⊎_elim (right a) (λ b. ⊎_elim (left b) bottom (cases_lt k (34 + 2 * last))) (cases_lt k (34 + last)))
    (cases_lt k 34)

-- a mark stands at a border point
pub mark-point : (paper : Paper) (k : ℕ) → k < marks paper → IsBorderPoint paper (mark_of (last_row paper) k).0 (mark_of (last_row paper) k).1
mark-point paper k few =
    let last : ℕ = last_row paper in
    let many : 40 ≤ last = last-row_low paper in
    record {
      column = mark-column last k many few;
      row = mark-row last k many few;
      side = cases_of last k
          (λ a. inl (grind (arith, nat_tests)))
          (λ a b. inr (inr (inr (grind (arith, nat_tests)))))
          (λ a b. inr (inr (inl (grind (arith, nat_tests)))))
          (λ a. inr (inl (grind (arith, nat_tests))));
    }

-- the marks at the ends of a grid row
pub left-end : (last row : ℕ) → 40 ≤ last → row ≤ last → ((mark_of last (left_mark last row)).0 ≡ 0) × ((mark_of last (left_mark last row)).1 ≡ row) × (left_mark last row < marks_to last)
left-end last row many few = (grind (arith, nat_tests), grind (arith, nat_tests), grind (arith, nat_tests))

pub right-end : (last row : ℕ) → 40 ≤ last → row ≤ last → ((mark_of last (right_mark row)).0 ≡ 33) × ((mark_of last (right_mark row)).1 ≡ row) × (right_mark row < marks_to last)
right-end last row many few = (grind (arith, nat_tests), grind (arith, nat_tests), grind (arith, nat_tests))

-- a mark of the bottom row, or the last of the right column
right_bottom : (last c r : ℕ) → 40 ≤ last → suc c ≤ 33 → r ≡ last → (c < 32) ⊎ (32 ≤ c)
    → (k : ℕ) × (k < marks_to last) × ((mark_of last k).0 ≡ suc c) × ((mark_of last k).1 ≡ r)
right_bottom last c r many few bottom (inl before) = (34 + 2 * last + c, omega arith, grind (arith, nat_tests), grind (arith, nat_tests))
right_bottom last c r many few bottom (inr past) = (33 + last, omega arith, grind (arith, nat_tests), grind (arith, nat_tests))

-- the number of the mark at a border point
pub number-at : (last c r : ℕ) → 40 ≤ last → c ≤ 33 → r ≤ last → (r ≡ 0) ⊎ (r ≡ last) ⊎ (c ≡ 0) ⊎ (c ≡ 33)
    → (k : ℕ) × (k < marks_to last) × ((mark_of last k).0 ≡ c) × ((mark_of last k).1 ≡ r)
number-at last c r many few low (inl top) = (c, omega arith, grind (arith, nat_tests), grind (arith, nat_tests))
number-at last zero r many few low (inr (inl bottom)) = (33 + 2 * last, omega arith, grind (arith, nat_tests), grind (arith, nat_tests))
number-at last (suc c) r many few low (inr (inl bottom)) = right_bottom last c r many few bottom (cases_lt c 32)
number-at last c zero many few low (inr (inr (inl left))) = (0, omega arith, grind (arith, nat_tests), grind (arith, nat_tests))
number-at last c (suc r) many few low (inr (inr (inl left))) = (34 + last + r, omega arith, grind (arith, nat_tests), grind (arith, nat_tests))
number-at last c r many few low (inr (inr (inr right))) = (33 + r, omega arith, grind (arith, nat_tests), grind (arith, nat_tests))
