-- One draw after another, without an overstatement, until they are enough.
use Rattle.std.proofs.Common.{◌≡◌, ◌⊎◌, inl, inr, ℕ, ◌+◌, ◌*◌, ◌<◌, ◌≤◌, Bool, true, false, refl, ap, sym, ◌∙◌, arith, add-one}
use Rattle.std.specs.Prelude.{nat_le, replicate, Some, None, IsTrue, ◌↔◌}
use Rattle.std.proofs.lemmas.Bool.{cases_lt}
use Rattle.std.proofs.lemmas.Bool.Decides.{same_from_decides}
use Rattle.vx_base.proofs.Numbers.{at_most-yes, at_most-from_yes}
use Rattle.vx_risk.specs.Bound.{numerator_by, denominator_by, numerator_of, denominator_of}
use Rattle.vx_risk.specs.Enough.{most_draws, are_enough, enough_of}
use Rattle.vx_risk.proofs.Least.{find-none, find-first}

-- so many draws are not enough, and these are the parts of their bound, in thousandths
pub record AreTooFew (records margin limit numerator denominator drawn : ℕ) : Type 0 where
  pub above : numerator ≡ numerator_of records margin (replicate drawn 0) * 1000
  pub below : denominator ≡ limit * denominator_of records (replicate drawn 0)
  pub too_few : (k : ℕ) → 1 ≤ k → k < 1 + drawn → are_enough records margin limit k ≡ false

numerator-more : (records margin drawn : ℕ) → numerator_of records margin (replicate (drawn + 1) 0) ≡ numerator_by records margin * numerator_of records margin (replicate drawn 0)
numerator-more records margin drawn = ap (λ (n : ℕ). numerator_of records margin (replicate n 0)) (add-one drawn)

denominator-more : (records drawn : ℕ) → denominator_of records (replicate (drawn + 1) 0) ≡ denominator_by records 0 * denominator_of records (replicate drawn 0)
denominator-more records drawn = ap (λ (n : ℕ). denominator_of records (replicate n 0)) (add-one drawn)

times_more : (factor old new part whole rest : ℕ) → new ≡ factor * old → old ≡ part * rest → whole ≡ factor * part → new ≡ whole * rest
times_more factor old new part whole rest is was more = rw (is, was, more) (omega arith)

-- the parts with one draw more
more-above : (records margin drawn factor old new : ℕ) → factor ≡ numerator_by records margin → new ≡ factor * old → old ≡ numerator_of records margin (replicate drawn 0) * 1000 →
    new ≡ numerator_of records margin (replicate (drawn + 1) 0) * 1000
more-above records margin drawn factor old new by is was =
    times_more (numerator_by records margin) old new (numerator_of records margin (replicate drawn 0)) (numerator_of records margin (replicate (drawn + 1) 0)) 1000
    (is ∙ ap (λ (n : ℕ). n * old) by) was (numerator-more records margin drawn)

more-below : (records limit drawn factor old new : ℕ) → factor ≡ denominator_by records 0 → new ≡ factor * old → old ≡ limit * denominator_of records (replicate drawn 0) →
    new ≡ limit * denominator_of records (replicate (drawn + 1) 0)
more-below records limit drawn factor old new by is was =
    times_more (denominator_by records 0) old new (denominator_of records (replicate drawn 0)) (denominator_of records (replicate (drawn + 1) 0)) limit
    (is ∙ ap (λ (n : ℕ). n * old) by) (was ∙ omega arith) (denominator-more records drawn)
    ∙ omega arith

-- the test of the parts is the definition's
tested : (records margin limit numerator denominator drawn : ℕ) (b : Bool) →
    numerator ≡ numerator_of records margin (replicate drawn 0) * 1000 → denominator ≡ limit * denominator_of records (replicate drawn 0) →
    IsTrue b ↔ (numerator ≤ denominator) → b ≡ are_enough records margin limit drawn
tested records margin limit numerator denominator drawn b above below test =
    same_from_decides b (nat_le numerator denominator) (test.0, test.1)
    ((λ h. at_most-from_yes numerator denominator h), (λ h. at_most-yes numerator denominator h))
    ∙ rw (above, below) refl

module _ (records margin limit above below numerator denominator numerator' denominator' drawn : ℕ) (b : Bool)
    (few : AreTooFew records margin limit numerator denominator drawn)
    (above-is : above ≡ numerator_by records margin) (below-is : below ≡ denominator_by records 0)
    (numerator-is : numerator' ≡ above * numerator) (denominator-is : denominator' ≡ below * denominator)
    (test : IsTrue b ↔ (numerator' ≤ denominator')) where
  answered : b ≡ are_enough records margin limit (drawn + 1)
  answered =
      tested records margin limit numerator' denominator' (drawn + 1) b
      (more-above records margin drawn above numerator numerator' above-is numerator-is few.above)
      (more-below records limit drawn below denominator denominator' below-is denominator-is few.below)
      test

  -- one draw more is enough
  pub enough-now : b ≡ true → drawn < 10000 → Some (drawn + 1) ≡ enough_of records margin limit
  unfolding most_draws
  enough-now met within =
      sym (find-first (are_enough records margin limit) 1 most_draws (drawn + 1) (omega arith) (omega arith) (sym answered ∙ met)
      (λ k low below. few.too_few k low (omega arith)))

  -- one draw more is too few
  pub too_few-still : b ≡ false → AreTooFew records margin limit numerator' denominator' (drawn + 1)
  too_few-still open_yet = record {
    above = more-above records margin drawn above numerator numerator' above-is numerator-is few.above;
    below = more-below records limit drawn below denominator denominator' below-is denominator-is few.below;
    too_few = λ k low high. by k low high (cases_lt k (drawn + 1));
  }
    where
      by : (k : ℕ) → 1 ≤ k → k < 1 + (drawn + 1) → (k < drawn + 1) ⊎ (drawn + 1 ≤ k) → are_enough records margin limit k ≡ false
      by k low high (inl before) = few.too_few k low (omega arith)
      by k low high (inr last) = ap (are_enough records margin limit) (omega arith) ∙ sym answered ∙ open_yet

-- none of them is enough
pub never-enough : (records margin limit numerator denominator drawn : ℕ) → AreTooFew records margin limit numerator denominator drawn → 10000 ≤ drawn → None ≡ enough_of records margin limit
unfolding most_draws
never-enough records margin limit numerator denominator drawn few past =
    sym (find-none (are_enough records margin limit) 1 most_draws (λ k low high. few.too_few k low (omega arith)))
