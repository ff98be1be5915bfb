-- Tests of numbers in order.
use Rattle.std.proofs.Common.{◌≡◌, ◌≢◌, ℕ, zero, suc, ◌+◌, ◌≤◌, ◌<◌, ◌==◌, Bool, true, false, refl, sym, ap, ◌∙◌, arith}
use Rattle.std.specs.Prelude.{Result, Ok, Err}
use Rattle.std.proofs.lemmas.Bool.{true≢false}
use Rattle.vx_base.specs.Results.{◌>>=◌}
use Rattle.vx_base.proofs.Numbers.{equal-from_yes, equal-yes}
use Rattle.vx_refusals.specs.declared.checking.CheckFault.{CheckFault}
use Rattle.vx_check.specs.Tests.{Tested, passes, in_order}

-- one thing after another
pub after-passed : {A F : Type 0} (first : Result (Unit {0}) F) (rest : Result A F) → first ≡ Ok tt → (first >>= (λ _. rest)) ≡ rest
after-passed first rest h = ap (λ r. r >>= (λ _. rest)) h

pub after-failed : {A F : Type 0} (first : Result (Unit {0}) F) (rest : Result A F) (fault : F) → first ≡ Err fault → (first >>= (λ _. rest)) ≡ Err fault
after-failed first rest fault h = ap (λ r. r >>= (λ _. rest)) h

pub both-passed : {A F : Type 0} (first : Result (Unit {0}) F) (rest : Result A F) (x : A) → (first >>= (λ _. rest)) ≡ Ok x → (first ≡ Ok tt) × (rest ≡ Ok x)
both-passed (Ok tt) rest x h = (refl, h)
both-passed (Err fault) rest x h = absurd (cc)

-- a test that passes, and one that fails
pub passes-so : (so : Bool) (fault : CheckFault) → passes so fault ≡ Ok tt → so ≡ true
passes-so true fault h = refl
passes-so false fault h = absurd (cc)

pub so-passes : (so : Bool) (fault : CheckFault) → so ≡ true → passes so fault ≡ Ok tt
so-passes so fault h = ap (λ b. passes b fault) h

pub not-passes : (so : Bool) (fault : CheckFault) → so ≡ false → passes so fault ≡ Err fault
not-passes so fault h = ap (λ b. passes b fault) h

module _ (test : ℕ → Tested) where
  by-first : (first k : ℕ) (rest : Tested) (fault : CheckFault) (same : Bool) → (first == k) ≡ same → first ≤ k → test k ≡ Err fault
      → (first < k → test first ≡ Ok tt) → (first < k → rest ≡ Err fault) → (test first >>= (λ _. rest)) ≡ Err fault
  by-first first k rest fault true is low failed passed later =
      after-failed (test first) rest fault (ap test (equal-from_yes first k is) ∙ failed)
  by-first first k rest fault false is low failed passed later =
      let differ : first ≢ k = λ e. true≢false (sym (equal-yes first k e) ∙ is) in
      let less : first < k = omega (arith, low, differ) in
      after-passed (test first) rest (passed less) ∙ later less

  -- where those before one pass and that one fails, it gives the answer
  pub in_order-fails : (first count k : ℕ) (fault : CheckFault) → ((j : ℕ) → first ≤ j → j < k → test j ≡ Ok tt) → first ≤ k → k < first + count → test k ≡ Err fault → in_order test first count ≡ Err fault
  unfolding in_order
  in_order-fails first zero k fault passed low high failed = absurd (omega (arith, low, high))
  in_order-fails first (suc count) k fault passed low high failed =
      by-first first k (in_order test (suc first) count) fault (first == k) refl low failed
      (λ less. passed first (omega arith) less)
      (λ less. in_order-fails (suc first) count k fault (λ j from before. passed j (omega (arith, from)) before) (omega (arith, less)) (omega (arith, high)) failed)

  -- where all pass, they do in order
  pub in_order-passes : (first count : ℕ) → ((j : ℕ) → first ≤ j → j < first + count → test j ≡ Ok tt) → in_order test first count ≡ Ok tt
  unfolding in_order
  in_order-passes first zero passed = refl
  in_order-passes first (suc count) passed =
      after-passed (test first) (in_order test (suc first) count) (passed first (omega arith) (omega arith))
      ∙ in_order-passes (suc first) count (λ j from before. passed j (omega (arith, from)) (omega (arith, before)))

  by-later : (first k : ℕ) (same : Bool) → (first == k) ≡ same → first ≤ k → test first ≡ Ok tt → (first < k → test k ≡ Ok tt) → test k ≡ Ok tt
  by-later first k true is low passed later = ap test (sym (equal-from_yes first k is)) ∙ passed
  by-later first k false is low passed later =
      let differ : first ≢ k = λ e. true≢false (sym (equal-yes first k e) ∙ is) in
      later (omega (arith, low, differ))

  -- where they do in order, each passes
  pub in_order-passed : (first count k : ℕ) → in_order test first count ≡ Ok tt → first ≤ k → k < first + count → test k ≡ Ok tt
  unfolding in_order
  in_order-passed first zero k h low high = absurd (omega (arith, low, high))
  in_order-passed first (suc count) k h low high =
      let parts = both-passed (test first) (in_order test (suc first) count) tt h in
      by-later first k (first == k) refl low parts.0
      (λ less. in_order-passed (suc first) count k parts.1 (omega (arith, less)) (omega (arith, high)))
