-- Marks along a history.
use Rattle.std.proofs.Common.{◌≡◌, ℕ, zero, suc, ◌+◌, ◌≤◌, ◌||◌, Bool, true, false, List, [], ◌∷◌, length, replicate, sym, refl, arith, le_of_eq}
use Rattle.vx_shared.specs.Marks.{is_marked, marked, either_marked}
use Rattle.vx_shared.specs.Seats.{one_below}

-- a mark beyond the marks
pub made_marked : (place : ℕ) (own : List Bool) (p : ℕ) → length own ≤ place
    → is_marked (marked place own) p + one_below place p ≡ is_marked own p + one_below (suc place) p
made_marked zero [] zero le = refl
made_marked zero [] (suc p) le = refl
made_marked zero (m ∷ ms) p le = absurd (omega arith)
made_marked (suc place) [] zero le = refl
made_marked (suc place) [] (suc p) le = made_marked place [] p (omega arith)
made_marked (suc place) (m ∷ ms) zero le = refl
made_marked (suc place) (m ∷ ms) (suc p) le = made_marked place ms p (omega arith)

pub length_marked : (place : ℕ) (own : List Bool) → length own ≤ place → length (marked place own) ≡ suc place
length_marked zero [] le = refl
length_marked zero (m ∷ ms) le = absurd (omega arith)
length_marked (suc place) [] le = let e = length_marked place [] (omega arith) in omega arith
length_marked (suc place) (m ∷ ms) le = let e = length_marked place ms (omega arith) in omega arith

or_one : (a b : Bool) → is_marked (a ∷ []) 0 + is_marked (b ∷ []) 0 ≤ 1 → is_marked ((a || b) ∷ []) 0 ≡ is_marked (a ∷ []) 0 + is_marked (b ∷ []) 0
or_one true true le = absurd (omega arith)
or_one true false le = refl
or_one false true le = refl
or_one false false le = refl

-- marks that are apart, added up
pub is_marked_either : (xs ys : List Bool) (p : ℕ) → is_marked xs p + is_marked ys p ≤ 1 → is_marked (either_marked xs ys) p ≡ is_marked xs p + is_marked ys p
is_marked_either [] ys p le = omega arith
is_marked_either (x ∷ xs) [] p le = omega arith
is_marked_either (x ∷ xs) (y ∷ ys) zero le = or_one x y le
is_marked_either (x ∷ xs) (y ∷ ys) (suc p) le = is_marked_either xs ys p le

pub length_either : (xs ys : List Bool) (n : ℕ) → length xs ≤ n → length ys ≤ n → length (either_marked xs ys) ≤ n
length_either [] ys n a b = b
length_either (x ∷ xs) [] n a b = a
length_either (x ∷ xs) (y ∷ ys) zero a b = absurd (omega arith)
length_either (x ∷ xs) (y ∷ ys) (suc n) a b = let h = length_either xs ys n (omega arith) (omega arith) in omega arith

pub below_one : (count place : ℕ) → one_below count place ≤ 1
below_one zero place = omega arith
below_one (suc count) zero = omega arith
below_one (suc count) (suc place) = below_one count place

mark_true : (m : Bool) → is_marked (m ∷ []) 0 ≡ 1 → m ≡ true
mark_true true e = refl
mark_true false e = absurd (omega arith)

-- where each place below so much is marked, the marks are so many, if they aren't more
pub all_marked : (count : ℕ) (own : List Bool) → length own ≤ count → ((p : ℕ) → is_marked own p ≡ one_below count p) → own ≡ replicate count true
all_marked zero [] le each = refl
all_marked zero (m ∷ ms) le each = absurd (omega arith)
all_marked (suc count) [] le each = let e : 1 ≤ 0 = le_of_eq (sym (each 0)) in absurd (omega arith)
all_marked (suc count) (m ∷ ms) le each =
    let head : m ≡ true = mark_true m (each 0) in
    let rest = all_marked count ms (omega arith) (λ p. each (suc p)) in (λ k. head k ∷ rest k)
