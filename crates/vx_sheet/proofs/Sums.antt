-- Sums over the numbers of a range.
use Rattle.std.proofs.Common.{◌≡◌, ℕ, zero, suc, ◌+◌, ◌*◌, ◌<◌, ◌≤◌, ◌==◌, Bool, true, false, cond, List, [], ◌∷◌, ◌++◌, length, refl, arith}
use Rattle.std.specs.List.{flat_map, range_with_len, sum_by}
use Rattle.std.proofs.lemmas.List.Concat.{flat_map-cons}
use Rattle.std.proofs.lemmas.List.Sums.{sum_by-cons, sum_by-append}
use Rattle.vx_base.proofs.Numbers.{equal-no, equal-from_yes}
use Rattle.std.proofs.Common.{ap}

-- a sum is at most another where each of its numbers is
pub sums-below : (f g : ℕ → ℕ) (a n : ℕ) → ((c : ℕ) → c < a + n → f c ≤ g c) → sum_by f (range_with_len a n) ≤ sum_by g (range_with_len a n)
sums-below f g a zero each = omega arith
sums-below f g a (suc n) each =
    let rest = sums-below f g (a + 1) n (λ c h. each c (omega arith)) in
    let here : f a ≤ g a = each a (omega arith) in
    omega (arith, rest, here, sum_by-cons f a (range_with_len (a + 1) n), sum_by-cons g a (range_with_len (a + 1) n))

-- the sum of two
pub sums-both : (f g : ℕ → ℕ) (xs : List ℕ) → sum_by (λ x. f x + g x) xs ≡ sum_by f xs + sum_by g xs
sums-both f g [] = refl
sums-both f g (x ∷ xs) =
    omega (arith, sums-both f g xs, sum_by-cons (λ (y : ℕ). f y + g y) x xs, sum_by-cons f x xs, sum_by-cons g x xs)

-- so many times the same
pub sums-fives : (a n : ℕ) → sum_by (λ c. 5) (range_with_len a n) ≡ 5 * n
sums-fives a zero = refl
sums-fives a (suc n) = omega (arith, sums-fives (a + 1) n, sum_by-cons (λ (c : ℕ). 5) a (range_with_len (a + 1) n))

pub sums-nothing : (a n : ℕ) → sum_by (λ c. 0) (range_with_len a n) ≡ 0
sums-nothing a zero = refl
sums-nothing a (suc n) = omega (arith, sums-nothing (a + 1) n, sum_by-cons (λ (c : ℕ). 0) a (range_with_len (a + 1) n))

-- a sum over lists that stand one behind the other
pub sums-laid : {X : Type 0} (w : X → ℕ) (f : ℕ → List X) (h : ℕ → ℕ) (a n : ℕ) → ((c : ℕ) → c < a + n → sum_by w (f c) ≤ h c) → sum_by w (flat_map f (range_with_len a n)) ≤ sum_by h (range_with_len a n)
sums-laid {X} w f h a zero each = omega arith
sums-laid {X} w f h a (suc n) each =
    let rest = sums-laid w f h (a + 1) n (λ c small. each c (omega arith)) in
    let here : sum_by w (f a) ≤ h a = each a (omega arith) in
    omega (arith, rest, here, ap (sum_by w) (flat_map-cons f a (range_with_len (a + 1) n)), sum_by-append w (f a) (flat_map f (range_with_len (a + 1) n)), sum_by-cons h a (range_with_len (a + 1) n))

-- what stands in the place of one number alone
abbrev pub at-one : {X : Type 0} → X → ℕ → ℕ → ℕ
at-one x k c = length (cond (k == c) (x ∷ []) [])

at-other : {X : Type 0} (x : X) (k c : ℕ) → (k ≡ c → ⊥) → at-one x k c ≡ 0
at-other {X} x k c apart = ap (λ (b : Bool). length (cond b (x ∷ []) [])) (equal-no k c apart)

none-behind : {X : Type 0} (x : X) (k a n : ℕ) → k < a → sum_by (at-one x k) (range_with_len a n) ≡ 0
none-behind {X} x k a zero before = refl
none-behind {X} x k a (suc n) before =
    omega (arith, none-behind x k (a + 1) n (omega arith), at-other x k a (λ e. absurd (omega (arith, e))), sum_by-cons (at-one x k) a (range_with_len (a + 1) n))

-- it stands once at most
pub sums-one : {X : Type 0} (x : X) (k a n : ℕ) → sum_by (at-one x k) (range_with_len a n) ≤ 1
sums-one {X} x k a zero = omega arith
sums-one {X} x k a (suc n) = by (k == a) refl (sums-one x k (a + 1) n)
  where
    by : (b : Bool) → (k == a) ≡ b → sum_by (at-one x k) (range_with_len (a + 1) n) ≤ 1 → sum_by (at-one x k) (range_with_len a (suc n)) ≤ 1
    by true e rest =
        let same = equal-from_yes k a e in
        let here : at-one x k a ≡ 1 = ap (λ (b : Bool). length (cond b (x ∷ []) [])) e in
        omega (arith, here, none-behind x k (a + 1) n (omega (arith, same)), sum_by-cons (at-one x k) a (range_with_len (a + 1) n))
    by false e rest =
        let here : at-one x k a ≡ 0 = ap (λ (b : Bool). length (cond b (x ∷ []) [])) e in
        omega (arith, here, rest, sum_by-cons (at-one x k) a (range_with_len (a + 1) n))
