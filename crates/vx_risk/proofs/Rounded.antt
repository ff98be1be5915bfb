-- What the millionths of a fraction are.
use Rattle.std.proofs.Common.{◌≡◌, ℕ, zero, suc, ◌+◌, ◌*◌, ◌<◌, ◌≤◌, false, List, [], ◌∷◌, refl, arith}
use Rattle.std.specs.Prelude.{All, find, unwrap_or, Option, Some, None}
use Rattle.std.specs.List.{range_with_len}
use Rattle.std.proofs.Math.Nat.{mul-le-mul_right}
use Rattle.std.proofs.lemmas.Nat.{mul-lt}
use Rattle.std.proofs.lemmas.List.Elements.{All-head, All-tail}
use Rattle.vx_base.proofs.Numbers.{at_most-from_yes}
use Rattle.vx_risk.specs.Bound.{denominator_by, denominator_of, all_millionths, reaches, millionths_in}
use Rattle.vx_risk.specs.Laws.{IsRoundedUp}
use Rattle.vx_risk.proofs.Least.{at_most-from_no, IsFirst, found-is, missed-is}
use Rattle.vx_risk.proofs.Halving.{whole}

some-by : (records overstatement : ℕ) → 0 < records → overstatement ≤ 2 → 0 < denominator_by records overstatement
some-by records zero some small = omega arith
some-by records (suc zero) some small = omega arith
some-by records (suc (suc zero)) some small = omega arith
some-by records (suc (suc (suc o))) some small = absurd (omega arith)

product-some : (m n : ℕ) → 0 < m → 0 < n → 0 < m * n
product-some m n some some' = mul-lt 0 0 m n some some'

-- there is a denominator where there are records
pub denominator-some : (records : ℕ) (os : List ℕ) → 0 < records → All (λ o. o ≤ 2) os → 0 < denominator_of records os
denominator-some records [] some small = omega arith
denominator-some records (o ∷ os) some small =
    product-some (denominator_by records o) (denominator_of records os)
    (some-by records o some (All-head (λ (o : ℕ). o ≤ 2) o os small))
    (denominator-some records os some (All-tail (λ (o : ℕ). o ≤ 2) o os small))

-- a number that is too few, and the next one
close-to : (numerator denominator d : ℕ) → 0 < denominator → ((k : ℕ) → k < d → reaches numerator denominator k ≡ false) →
    d * denominator < numerator * 1000000 + denominator
close-to numerator denominator zero some fails = omega arith
close-to numerator denominator (suc d) some fails =
    let below = at_most-from_no (numerator * 1000000) (d * denominator) (fails d (omega arith)) in
    omega (arith, below)

rounded-first : (numerator denominator d : ℕ) → 0 < denominator → IsFirst (reaches numerator denominator) 0 d → d < 1000000 → IsRoundedUp numerator denominator d
rounded-first numerator denominator d some first within =
    let enough = at_most-from_yes (numerator * 1000000) (d * denominator) first.passes in
    record {
      at_most_one = omega arith;
      at_least = λ _. enough;
      close = close-to numerator denominator d some (λ k below. first.fails k (omega arith) below);
      capped = λ more.
          let next : d ≤ 999999 = omega arith in
          absurd (omega (arith, enough, mul-le-mul_right denominator next, more));
    }

rounded-none : (numerator denominator : ℕ) → 0 < denominator → ((k : ℕ) → 0 ≤ k → k < 1000000 → reaches numerator denominator k ≡ false) → IsRoundedUp numerator denominator 1000000
rounded-none numerator denominator some fails = record {
  at_most_one = omega arith;
  at_least = λ less. omega (arith, less);
  close = close-to numerator denominator 1000000 some (λ k below. fails k (omega arith) below);
  capped = λ _. refl;
}

-- the millionths are the fraction, rounded up
pub rounded-up : (numerator denominator : ℕ) → 0 < denominator → IsRoundedUp numerator denominator (millionths_in numerator denominator)
rounded-up numerator denominator some = by (find (reaches numerator denominator) (range_with_len 0 all_millionths)) refl
  where
    by : (found : Option ℕ) → find (reaches numerator denominator) (range_with_len 0 all_millionths) ≡ found → IsRoundedUp numerator denominator (unwrap_or found all_millionths)
    by (Some d) is =
        let first = found-is (reaches numerator denominator) 0 all_millionths d is in
        rounded-first numerator denominator d some first.0 (omega (arith, first.1, whole))
    by None is =
        rw whole (rounded-none numerator denominator some
        (λ k low below. missed-is (reaches numerator denominator) 0 all_millionths is k low (omega (arith, whole))))
