-- Tests of numbers, and the first number that passes one.
use Rattle.std.proofs.Common.{◌≡◌, ◌≢◌, ◌⊎◌, inl, inr, ℕ, zero, suc, ◌+◌, ◌<◌, ◌≤◌, Bool, true, false, cond, refl, ap, sym, ◌∙◌, arith}
use Rattle.std.specs.Prelude.{find, nat_le, Some, None}
use Rattle.std.specs.List.{range_with_len}
use Rattle.std.proofs.lemmas.Bool.{cases_eq}
use Rattle.std.proofs.lemmas.Bool.Decides.{nat_tests}

pub at_most-no : (m n : ℕ) → n < m → nat_le m n ≡ false
at_most-no m n h = grind (arith, nat_tests)

pub at_most-from_no : (m n : ℕ) → nat_le m n ≡ false → n < m
at_most-from_no m n h = grind (arith, nat_tests)

-- none of so many numbers passes
pub find-none : (test : ℕ → Bool) (from many : ℕ) → ((k : ℕ) → from ≤ k → k < from + many → test k ≡ false) → find test (range_with_len from many) ≡ None
find-none test from zero fails = refl
find-none test from (suc many) fails =
    ap (λ (b : Bool). cond b (Some from) (find test (range_with_len (from + 1) many))) (fails from (omega arith) (omega arith))
    ∙ find-none test (from + 1) many (λ k low high. fails k (omega arith) (omega arith))

-- a number passes, and none before it
pub find-first : (test : ℕ → Bool) (from many d : ℕ) → from ≤ d → d < from + many → test d ≡ true → ((k : ℕ) → from ≤ k → k < d → test k ≡ false) →
    find test (range_with_len from many) ≡ Some d
find-first test from zero d low high passes fails = absurd (omega arith)
find-first test from (suc many) d low high passes fails = by (cases_eq from d) (find-first test (from + 1) many d)
  where
    by : (from ≡ d) ⊎ (from ≢ d) →
        (from + 1 ≤ d → d < (from + 1) + many → test d ≡ true → ((k : ℕ) → from + 1 ≤ k → k < d → test k ≡ false) → find test (range_with_len (from + 1) many) ≡ Some d) →
        cond (test from) (Some from) (find test (range_with_len (from + 1) many)) ≡ Some d
    by (inl here) later =
        ap (λ (b : Bool). cond b (Some from) (find test (range_with_len (from + 1) many))) (ap test here ∙ passes) ∙ ap (λ (n : ℕ). Some n) here
    by (inr beyond) later =
        ap (λ (b : Bool). cond b (Some from) (find test (range_with_len (from + 1) many))) (fails from (omega arith) (omega (arith, beyond)))
        ∙ later (omega (arith, beyond)) (omega arith) passes (λ k from_low below. fails k (omega arith) below)

-- the first number from a place on that passes
pub record IsFirst (test : ℕ → Bool) (from d : ℕ) : Type 0 where
  pub low : from ≤ d
  pub passes : test d ≡ true
  pub fails : (k : ℕ) → from ≤ k → k < d → test k ≡ false

-- what fails here and in front of what is further on
fails-more : (test : ℕ → Bool) (from d : ℕ) → test from ≡ false → ((k : ℕ) → from + 1 ≤ k → k < d → test k ≡ false) → (k : ℕ) → from ≤ k → k < d → test k ≡ false
fails-more test from d here further k low below = by (cases_eq from k)
  where
    by : (from ≡ k) ⊎ (from ≢ k) → test k ≡ false
    by (inl same) = sym (ap test same) ∙ here
    by (inr other) = further k (omega (arith, other)) below

-- what is found is the first
pub found-is : (test : ℕ → Bool) (from many d : ℕ) → find test (range_with_len from many) ≡ Some d → IsFirst test from d × (d < from + many)
found-is test from zero d is = absurd cc
found-is test from (suc many) d is = by (test from) refl is (found-is test (from + 1) many d)
  where
    by : (b : Bool) → test from ≡ b → cond b (Some from) (find test (range_with_len (from + 1) many)) ≡ Some d →
        (find test (range_with_len (from + 1) many) ≡ Some d → IsFirst test (from + 1) d × (d < (from + 1) + many)) →
        IsFirst test from d × (d < from + suc many)
    by true here first later =
        let same : from ≡ d = cc in
        (record { low = omega arith; passes = ap test (sym same) ∙ here; fails = λ k low below. absurd (omega arith) }, omega arith)
    by false here rest later =
        let more = later rest in
        (record { low = omega (arith, more.0.low); passes = more.0.passes; fails = fails-more test from d here more.0.fails }, omega (arith, more.1))

-- nothing is found: none passes
pub missed-is : (test : ℕ → Bool) (from many : ℕ) → find test (range_with_len from many) ≡ None → (k : ℕ) → from ≤ k → k < from + many → test k ≡ false
missed-is test from zero is k low high = absurd (omega arith)
missed-is test from (suc many) is k low high = by (test from) refl is (missed-is test (from + 1) many)
  where
    by : (b : Bool) → test from ≡ b → cond b (Some from) (find test (range_with_len (from + 1) many)) ≡ None →
        (find test (range_with_len (from + 1) many) ≡ None → (k : ℕ) → from + 1 ≤ k → k < (from + 1) + many → test k ≡ false) →
        test k ≡ false
    by true here first later = absurd cc
    by false here rest later = fails-more test from (from + suc many) here (λ k low high. later rest k low (omega arith)) k low high
