-- Bubbles of a page that keep clear of one another are few.
use Rattle.std.proofs.Common.{◌≡◌, ◌≢◌, ℕ, zero, suc, ◌+◌, ◌-◌, ◌*◌, ◌≤◌, ◌<◌, ◌==◌, Bool, true, false, cond, length, get_or, ℤ, pos, ◌-ℤ◌, refl, sym, ◌∙◌, arith}
use Rattle.std.proofs.lemmas.Int.{ints}
use Rattle.std.proofs.lemmas.List.Elements.{All-get_or}
use Rattle.std.proofs.lemmas.Bool.{true≢false}
use Rattle.vx_base.proofs.Numbers.{equal-from_yes, equal-yes}
use Rattle.vx_plane.proofs.Pages.{rectangle-inside}
use Rattle.vx_grid.specs.declared.paper.Paper.{Paper}
use Rattle.vx_grid.specs.declared.paper.Paper.TheVariants.{Letter, Legal}
use Rattle.vx_grid.specs.Grid.{x_of, y_of, contest_rows}
use Rattle.vx_layout.specs.declared.bubbles.Bubble.{Bubble}
use Rattle.vx_layout.specs.declared.pages.PagePlan.{PagePlan}
use Rattle.vx_layout.specs.Pages.{IsOnGrid}
use Rattle.vx_layout.specs.Printed.{KeepsClear}
use Rattle.vx_layout.specs.Zones.{bubble_zone_of, bubble_box_of}

-- one of n + 1 numbers, the last one in the place of m
abbrev moved : ℕ → ℕ → ℕ → ℕ
moved m last a = cond (a == m) last a

differ-from : (m n : ℕ) → (m == n) ≡ false → m ≡ n → ⊥
differ-from m n is e = true≢false (sym (equal-yes m n e) ∙ is)

moved-low : (m last a : ℕ) (test : Bool) → (a == m) ≡ test → a < suc m → last < suc m → (a ≡ last → ⊥) → cond test last a < m
moved-low m last a true is low low_last apart = let same : a ≡ m = equal-from_yes a m is in omega (arith, same, low_last, apart)
moved-low m last a false is low low_last apart = omega (arith, low, differ-from a m is)

moved-same : (m last a b : ℕ) (s t : Bool) → (a == m) ≡ s → (b == m) ≡ t → (a ≡ last → ⊥) → (b ≡ last → ⊥) → cond s last a ≡ cond t last b → a ≡ b
moved-same m last a b true true is is_too apart apart_too e = equal-from_yes a m is ∙ sym (equal-from_yes b m is_too)
moved-same m last a b true false is is_too apart apart_too e = absurd (apart_too (sym e))
moved-same m last a b false true is is_too apart apart_too e = absurd (apart e)
moved-same m last a b false false is is_too apart apart_too e = e

-- as many different numbers as are below m are at most m
pub few-different : (m n : ℕ) (f : ℕ → ℕ) → ((i : ℕ) → i < n → f i < m) → ((i j : ℕ) → i < n → j < n → f i ≡ f j → i ≡ j) → n ≤ m
few-different m zero f low one = omega arith
few-different zero (suc n) f low one = let none : f 0 < 0 = low 0 (omega arith) in absurd (omega (arith, none))
few-different (suc m) (suc n) f low one =
    let apart : (i : ℕ) → i < n → f i ≡ f n → ⊥ = λ i less e. (let same : i ≡ n = one i n (omega (arith, less)) (omega arith) e in absurd (omega (arith, same, less))) in
    let rest : n ≤ m =
    few-different m n (λ i. moved m (f n) (f i))
    (λ i less. moved-low m (f n) (f i) (f i == m) refl (low i (omega (arith, less))) (low n (omega arith)) (apart i less))
    (λ i j less less_too e. one i j (omega (arith, less)) (omega (arith, less_too))
    (moved-same m (f n) (f i) (f j) (f i == m) (f j == m) refl refl (apart i less) (apart j less_too) e)) in
    omega (arith, rest)

-- the number of a grid point of the contests
abbrev key : Bubble → ℕ
key bubble = bubble.col + 23 * (bubble.row - 6)

few_rows : (paper : Paper) → contest_rows paper ≤ 39
few_rows Letter = omega arith
few_rows Legal = omega arith

key-low : (paper : Paper) (bubble : Bubble) → IsOnGrid paper bubble → key bubble < 897
key-low paper bubble on =
    let rows : contest_rows paper ≤ 39 = few_rows paper in
    let row : bubble.row - 6 ≤ 38 = omega (arith, on.low, on.high, rows) in
    omega (arith, on.few, on.col, row)

-- two bubbles at one grid point overlap
key-apart : (paper : Paper) (a b : Bubble) → IsOnGrid paper a → IsOnGrid paper b → key a ≡ key b
    → ((u v : ℤ) → bubble_zone_of paper a u v ≡ true → bubble_box_of paper b u v ≡ true → ⊥) → ⊥
key-apart paper a b on on_too same apart =
    let rows : contest_rows paper ≤ 39 = few_rows paper in
    let row : a.row ≡ b.row = omega (arith, on.few, on.col, on.low, on_too.few, on_too.col, on_too.low, same) in
    let column : a.col ≡ b.col = omega (arith, on.low, on_too.low, same, row) in
    apart (pos (x_of b.col)) (pos (y_of paper b.row))
    (rectangle-inside (pos (x_of a.col) -ℤ pos 36) (pos (y_of paper a.row) -ℤ pos 25) 72 50 (pos (x_of b.col)) (pos (y_of paper b.row))
    (omega (arith, ints, column)) (omega (arith, ints, column)) (omega (arith, ints, row)) (omega (arith, ints, row)))
    (rectangle-inside (pos (x_of b.col) -ℤ pos 20) (pos (y_of paper b.row) -ℤ pos 13) 40 26 (pos (x_of b.col)) (pos (y_of paper b.row))
    (omega (arith, ints)) (omega (arith, ints)) (omega (arith, ints)) (omega (arith, ints)))

-- the bubbles of a page that keep clear of one another
pub few-bubbles : (plan : PagePlan) → KeepsClear plan → length plan.bubbles < 1000
few-bubbles plan keeps =
    let none : Bubble = record { contest = 0; option = 0; col = 0; row = 0 } in
    let at : ℕ → Bubble = λ i. get_or plan.bubbles i none in
    let on : (i : ℕ) → i < length plan.bubbles → IsOnGrid plan.paper (at i) = λ i less. All-get_or (IsOnGrid plan.paper) plan.bubbles i none less keeps.on_grid in
    let few : length plan.bubbles ≤ 897 =
    few-different 897 (length plan.bubbles) (λ i. key (at i)) (λ i less. key-low plan.paper (at i) (on i less))
    (λ i j less less_too same. by_same i j (i == j) refl (λ differ. key-apart plan.paper (at i) (at j) (on i less) (on j less_too) same (keeps.apart.each i j none less less_too differ).apart)) in
    omega (arith, few)
  where
    by_same : (i j : ℕ) (test : Bool) → (i == j) ≡ test → ((i ≢ j) → ⊥) → i ≡ j
    by_same i j true is never = equal-from_yes i j is
    by_same i j false is never = absurd (never (differ-from i j is))
