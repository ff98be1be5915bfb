-- Sums over the views.
use Rattle.std.proofs.Common.{◌≡◌, ◌≢◌, ℕ, zero, suc, ◌+◌, ◌≤◌, List, [], ◌∷◌, ◌++◌, set, sym, refl, ap, arith}
use mathlib.Core.Option.{some, some-injective, some-ne-none}
use lib.ListN.{get_elem?}
use Rattle.vx_shared.specs.declared.seats.View.{View}
use Rattle.vx_shared.specs.Seats.{total}

-- a sum after a change of one view
pub total_set : (f : View → ℕ) (l : List View) (i : ℕ) (v w : View) → get_elem? l i ≡ some v → total f (set l i w) + f v ≡ total f l + f w
total_set f [] i v w at = absurd (some-ne-none v (sym at))
total_set f (x ∷ xs) zero v w at = let e : f x ≡ f v = ap f (some-injective x v at) in omega arith
total_set f (x ∷ xs) (suc i) v w at = let e = total_set f xs i v w at in omega arith

pub total_snoc : (f : View → ℕ) (l : List View) (w : View) → total f (l ++ w ∷ []) ≡ total f l + f w
total_snoc f [] w = omega arith
total_snoc f (x ∷ xs) w = let e = total_snoc f xs w in omega arith

-- one view is at most the sum
pub total_one : (f : View → ℕ) (l : List View) (i : ℕ) (v : View) → get_elem? l i ≡ some v → f v ≤ total f l
total_one f [] i v at = absurd (some-ne-none v (sym at))
total_one f (x ∷ xs) zero v at = let e : f x ≡ f v = ap f (some-injective x v at) in omega arith
total_one f (x ∷ xs) (suc i) v at = let e = total_one f xs i v at in omega arith

-- two views are at most the sum
pub total_two : (f : View → ℕ) (l : List View) (i j : ℕ) (v w : View) → get_elem? l i ≡ some v → get_elem? l j ≡ some w → i ≢ j → f v + f w ≤ total f l
total_two f [] i j v w at bt ne = absurd (some-ne-none v (sym at))
total_two f (x ∷ xs) zero zero v w at bt ne = absurd (ne refl)
total_two f (x ∷ xs) zero (suc j) v w at bt ne =
    let e : f x ≡ f v = ap f (some-injective x v at) in let h = total_one f xs j w bt in omega arith
total_two f (x ∷ xs) (suc i) zero v w at bt ne =
    let e : f x ≡ f w = ap f (some-injective x w bt) in let h = total_one f xs i v at in omega arith
total_two f (x ∷ xs) (suc i) (suc j) v w at bt ne = let h = total_two f xs i j v w at bt (λ e. ne (ap suc e)) in omega arith

-- a sum is 0 where each view is
pub total_zero : (f : View → ℕ) (l : List View) → ((i : ℕ) (v : View) → get_elem? l i ≡ some v → f v ≡ 0) → total f l ≡ 0
total_zero f [] none = refl
total_zero f (x ∷ xs) none = let a = none 0 x refl in let b = total_zero f xs (λ i v at. none (suc i) v at) in omega arith

-- a sum is at most another where each view is
pub total_le : (f g : View → ℕ) (l : List View) → ((i : ℕ) (v : View) → get_elem? l i ≡ some v → f v ≤ g v) → total f l ≤ total g l
total_le f g [] each = omega arith
total_le f g (x ∷ xs) each = let a = each 0 x refl in let b = total_le f g xs (λ i v at. each (suc i) v at) in omega arith

-- where the others count nothing, a sum is what the one view counts
pub total_only : (f : View → ℕ) (l : List View) (i : ℕ) (v : View) → get_elem? l i ≡ some v
    → ((j : ℕ) (w : View) → j ≢ i → get_elem? l j ≡ some w → f w ≡ 0) → total f l ≡ f v
total_only f [] i v at none = absurd (some-ne-none v (sym at))
total_only f (x ∷ xs) zero v at none =
    let e : f x ≡ f v = ap f (some-injective x v at) in
    let z : total f xs ≡ 0 = total_zero f xs (λ j w bt. none (suc j) w (λ h. omega arith) bt) in omega arith
total_only f (x ∷ xs) (suc i) v at none =
    let z : f x ≡ 0 = none 0 x (λ h. omega arith) refl in
    let e = total_only f xs i v at (λ j w ne bt. none (suc j) w (λ h. ne (omega arith)) bt) in omega arith
