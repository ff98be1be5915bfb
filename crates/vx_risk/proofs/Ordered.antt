-- What makes the bound greater or less.
use Rattle.std.proofs.Common.{◌≡◌, ℕ, zero, suc, ◌+◌, ◌-◌, ◌*◌, ◌<◌, ◌≤◌, true, false, List, [], ◌∷◌, refl, ap, ◌∙◌, arith}
use Rattle.std.specs.Prelude.{replicate, MatchOption, Option, Some, None}
use Rattle.std.specs.List.{AllZip}
use Rattle.std.proofs.Math.Nat.{mul-le-mul_left}
use Rattle.std.proofs.lemmas.Nat.{mul-le}
use Rattle.vx_base.proofs.Numbers.{at_most-yes, at_most-from_yes}
use Rattle.vx_risk.specs.Bound.{numerator_by, denominator_by, numerator_of, denominator_of, is_at_most}
use Rattle.vx_risk.specs.Enough.{most_draws, are_enough, enough_of}
use Rattle.vx_risk.specs.Laws.{IsEnough}
use Rattle.vx_risk.proofs.Least.{IsFirst, found-is, missed-is}

less-by : (records one other : ℕ) → one ≤ other → denominator_by records other ≤ denominator_by records one
less-by records one other h =
    let rest : 20781 - 10000 * other ≤ 20781 - 10000 * one = omega arith in
    mul-le-mul_left (20781 * records) rest

-- more overstatement makes the denominator less
less-of : (records : ℕ) (less more : List ℕ) → AllZip (λ one other. one ≤ other) less more → denominator_of records more ≤ denominator_of records less
less-of records [] [] each = omega arith
less-of records [] (y ∷ ys) each = absurd each
less-of records (x ∷ xs) [] each = absurd each
less-of records (x ∷ xs) (y ∷ ys) each =
    mul-le (denominator_by records y) (denominator_of records ys) (denominator_by records x) (denominator_of records xs)
    (less-by records x y each.0) (less-of records xs ys each.1)

-- and leaves the numerator as it is
same-above : (records margin : ℕ) (less more : List ℕ) → AllZip (λ one other. one ≤ other) less more → numerator_of records margin less ≡ numerator_of records margin more
same-above records margin [] [] each = refl
same-above records margin [] (y ∷ ys) each = absurd each
same-above records margin (x ∷ xs) [] each = absurd each
same-above records margin (x ∷ xs) (y ∷ ys) each = ap (λ (n : ℕ). numerator_by records margin * n) (same-above records margin xs ys each.1)

pub met-with_less : (records margin limit : ℕ) (less more : List ℕ) → AllZip (λ one other. one ≤ other) less more →
    is_at_most records margin more limit ≡ true → is_at_most records margin less limit ≡ true
met-with_less records margin limit less more each met =
    let was = at_most-from_yes (numerator_of records margin more * 1000) (limit * denominator_of records more) met in
    let grows = mul-le-mul_left limit (less-of records less more each) in
    at_most-yes (numerator_of records margin less * 1000) (limit * denominator_of records less)
    (rw (same-above records margin less more each) (omega (arith, was, grows)))

one-more : (above below numerator denominator limit : ℕ) → above ≤ below → numerator * 1000 ≤ limit * denominator → above * numerator * 1000 ≤ limit * (below * denominator)
one-more above below numerator denominator limit h met =
    omega (arith, mul-le above (numerator * 1000) below (limit * denominator) h met)

pub met-with_more : (records margin limit : ℕ) (os : List ℕ) → is_at_most records margin os limit ≡ true → is_at_most records margin (0 ∷ os) limit ≡ true
met-with_more records margin limit os met =
    let was = at_most-from_yes (numerator_of records margin os * 1000) (limit * denominator_of records os) met in
    at_most-yes (numerator_of records margin (0 ∷ os) * 1000) (limit * denominator_of records (0 ∷ os))
    (one-more (numerator_by records margin) (denominator_by records 0) (numerator_of records margin os) (denominator_of records os) limit (omega arith) was)

-- further draws without an overstatement are enough too
still-enough : (records margin limit draws more : ℕ) → are_enough records margin limit draws ≡ true → are_enough records margin limit (more + draws) ≡ true
still-enough records margin limit draws zero met = ap (are_enough records margin limit) (omega arith) ∙ met
still-enough records margin limit draws (suc more) met =
    let next : suc more + draws ≡ suc (more + draws) = omega arith in
    ap (are_enough records margin limit) next
    ∙ met-with_more records margin limit (replicate (more + draws) 0) (still-enough records margin limit draws more met)

limit-of : most_draws ≡ 10000
unfolding most_draws
limit-of = refl

is-enough : (records margin limit draws : ℕ) → IsFirst (are_enough records margin limit) 1 draws → draws < 1 + most_draws → IsEnough records margin limit draws
is-enough records margin limit draws first within = record {
  some = first.low;
  within = omega (arith, limit-of);
  met = λ k past. ap (are_enough records margin limit) (omega arith) ∙ still-enough records margin limit draws (k - draws) first.passes;
  fewer = first.fails;
}

pub enough-least : (records margin limit : ℕ) →
    MatchOption (enough_of records margin limit)
    ((k : ℕ) → 1 ≤ k → k ≤ 10000 → are_enough records margin limit k ≡ false)
    (IsEnough records margin limit)
enough-least records margin limit = by (enough_of records margin limit) refl
  where
    by : (found : Option ℕ) → enough_of records margin limit ≡ found →
        MatchOption found ((k : ℕ) → 1 ≤ k → k ≤ 10000 → are_enough records margin limit k ≡ false) (IsEnough records margin limit)
    by (Some draws) is =
        let first = found-is (are_enough records margin limit) 1 most_draws draws is in
        is-enough records margin limit draws first.0 first.1
    by None is = λ k low high. missed-is (are_enough records margin limit) 1 most_draws is k low (omega (arith, limit-of))
