-- A fraction in millionths, found by halving.
use Rattle.std.proofs.Common.{◌≡◌, ◌⊎◌, inl, inr, ℕ, ◌+◌, ◌-◌, ◌*◌, ◌/◌, ◌<◌, ◌≤◌, false, refl, ap, sym, ◌∙◌, arith}
use Rattle.std.specs.Prelude.{nat_le, unwrap_or, Option}
use Rattle.std.proofs.Math.Nat.{mul-le-mul_right}
use Rattle.std.proofs.lemmas.Bool.{cases_lt}
use Rattle.vx_base.proofs.Numbers.{at_most-yes}
use Rattle.vx_risk.specs.Bound.{all_millionths, reaches, millionths_in}
use Rattle.vx_risk.proofs.Least.{at_most-no, at_most-from_no, find-none, find-first}

-- a fraction's millionths, rounded up, lie in a range: those below are too few, and its end is enough or is one
pub record IsInRange (numerator denominator low high : ℕ) : Type 0 where
  pub ordered : low ≤ high
  pub within : high ≤ 1000000
  pub too_few : (k : ℕ) → k < low → k * denominator < numerator * 1000000
  pub enough : high < 1000000 → numerator * 1000000 ≤ high * denominator

-- the middle of a range
middle-within : (low high : ℕ) → low < high → (low ≤ low + (high - low) / 2) × (low + (high - low) / 2 < high)
middle-within low high h = (omega arith, omega arith)

-- the middle is too few
pub upper-half : (numerator denominator low high : ℕ) → IsInRange numerator denominator low high → low < high →
    nat_le (1000000 * numerator) ((low + (high - low) / 2) * denominator) ≡ false → IsInRange numerator denominator (low + (high - low) / 2 + 1) high
upper-half numerator denominator low high range some missed = record {
  ordered = omega (arith, (middle-within low high some).1);
  within = range.within;
  too_few = λ k below.
      let up_to : k ≤ low + (high - low) / 2 = omega arith in
      omega (arith, mul-le-mul_right denominator up_to, at_most-from_no (1000000 * numerator) ((low + (high - low) / 2) * denominator) missed);
  enough = range.enough;
}

pub whole : all_millionths ≡ 1000000
unfolding all_millionths
whole = refl

missed-below : (numerator denominator low high : ℕ) → IsInRange numerator denominator low high → (k : ℕ) → k < low → reaches numerator denominator k ≡ false
missed-below numerator denominator low high range k below = at_most-no (numerator * 1000000) (k * denominator) (range.too_few k below)

-- a range of one number is the answer
pub halved : (numerator denominator low high : ℕ) → IsInRange numerator denominator low high → high ≤ low → low ≡ millionths_in numerator denominator
halved numerator denominator low high range none =
    sym (by (cases_lt low all_millionths))
  where
    by : (low < all_millionths) ⊎ (all_millionths ≤ low) → millionths_in numerator denominator ≡ low
    by (inl less) =
        let same : low ≡ high = omega (arith, range.ordered) in
        let enough : numerator * 1000000 ≤ high * denominator = range.enough (omega (arith, whole)) in
        let here : numerator * 1000000 ≤ low * denominator = rw same enough in
        ap (λ (o : Option ℕ). unwrap_or o all_millionths)
        (find-first (reaches numerator denominator) 0 all_millionths low (omega arith) (omega arith)
        (at_most-yes (numerator * 1000000) (low * denominator) here) (λ k from below. missed-below numerator denominator low high range k below))
    by (inr more) =
        ap (λ (o : Option ℕ). unwrap_or o all_millionths)
        (find-none (reaches numerator denominator) 0 all_millionths
        (λ k from below. missed-below numerator denominator low high range k (omega arith)))
        ∙ omega (arith, whole, range.ordered, range.within)
