-- A ranking that names each candidate at most once is no longer than there are candidates.
use Rattle.std.proofs.Common.{◌≡◌, ◌+◌, ◌^◌, ◌<◌, ◌≤◌, ◌==◌, ℕ, zero, suc, Bool, true, cond, List, [], ◌∷◌, length, refl, ap, arith}
use Rattle.std.specs.Prelude.{All, count_by, nat_lt}
use Rattle.std.proofs.lemmas.Bool.Decides.{nat_tests}
use Rattle.std.proofs.lemmas.List.Elements.{All-head, All-tail, All-weaker}
use Rattle.std.proofs.lemmas.List.Sums.{sum_by-cons}
use Rattle.vx_base.proofs.Numbers.{below-yes, below-no}
use Rattle.vx_rounds.specs.Rankings.{IsRanking, AreShort}
use Rattle.vx_rounds.proofs.Counts.{sum_by-split}

-- what all of these pass is counted whole
count_each : (p : ℕ → Bool) (xs : List ℕ) → All (λ (x : ℕ). p x ≡ true) xs → count_by p xs ≡ length xs
count_each p [] each = refl
count_each p (x ∷ xs) each =
    let here = ap {B = ℕ} (λ (b : Bool). cond b 1 0) (All-head (λ (y : ℕ). p y ≡ true) x xs each) in
    omega (arith, sum_by-cons (λ (y : ℕ). cond (p y) 1 0) x xs, here, count_each p xs (All-tail (λ (y : ℕ). p y ≡ true) x xs each))

count_none : (xs : List ℕ) → count_by (λ (x : ℕ). nat_lt x 0) xs ≡ 0
count_none [] = refl
count_none (x ∷ xs) =
    let here = ap {B = ℕ} (λ (b : Bool). cond b 1 0) (below-no x 0 (omega arith)) in
    omega (arith, sum_by-cons (λ (y : ℕ). cond (nat_lt y 0) 1 0) x xs, here, count_none xs)

one_number : (n x : ℕ) → cond (nat_lt x n) 1 0 + cond (x == n) 1 0 ≡ cond (nat_lt x (suc n)) 1 0
one_number n x = grind (arith, nat_tests)

-- numbers below another, each at most once
count_below : (xs : List ℕ) → ((c : ℕ) → count_by (λ (x : ℕ). x == c) xs ≤ 1) → (n : ℕ) → count_by (λ (x : ℕ). nat_lt x n) xs ≤ n
count_below xs once zero = omega (arith, count_none xs)
count_below xs once (suc n) =
    omega (
      arith,
      once n,
      count_below xs once n,
      sum_by-split (λ (x : ℕ). cond (nat_lt x n) 1 0) (λ (x : ℕ). cond (x == n) 1 0) (λ (x : ℕ). cond (nat_lt x (suc n)) 1 0) (one_number n) xs,
    )

pub length-ranking : (n : ℕ) (r : List ℕ) → IsRanking n r → length r ≤ n
length-ranking n r h =
    let all = count_each (λ (x : ℕ). nat_lt x n) r (All-weaker (λ (c : ℕ). c < n) (λ (c : ℕ). nat_lt c n ≡ true) (λ c low. below-yes c n low) r h.below) in
    omega (arith, all, count_below r h.once n)

pub are-short : (n : ℕ) (rankings : List (List ℕ)) → n < 2 ^ 32 → All (IsRanking n) rankings → AreShort rankings
are-short n rankings small each =
    All-weaker (IsRanking n) (λ (r : List ℕ). length r < 2 ^ 32) (λ r h. let le = length-ranking n r h in omega (arith, le, small)) rankings each
