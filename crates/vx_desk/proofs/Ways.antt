-- Parts of a distance lie on the way. The crate of the grid places shows the same of its own numbers.
use Rattle.std.proofs.Common.{◌≡◌, ◌≤◌, ◌<◌, ◌+◌, ◌*◌, ◌/◌, ℕ, zero, suc, arith, subst, ℤ, pos, negsuc, ◌+ℤ◌, ◌-ℤ◌}
use Rattle.std.specs.Int.{int_div_euclid}
use Rattle.std.proofs.lemmas.Int.{ints, by_lt_z}
use lib.IntN.{neg_ℤ}
use Rattle.std.proofs.Math.Nat.{mul-le-mul_left}
use Rattle.vx_grid.specs.Places.{IsWithin}
use Rattle.vx_fit.specs.Fit.{part_of, IsOnTheWay}

-- so many times a distance is at most 33 times it
times_forwards : (m s : ℕ) → s ≤ 33 → m * s ≤ m * 33
times_forwards m s h = mul-le-mul_left m h

-- a part of the way back is no longer than the way
part_back : (m k : ℕ) → k < suc m * 33 → IsOnTheWay (negsuc m) (negsuc (k / 33))
part_back m k short =
    let within : k / 33 ≤ m = omega (arith, short) in
    record {
      forwards = λ up. absurd (omega (arith, ints, up));
      backwards = λ down. (omega (arith, ints, within), omega (arith, ints));
    }

none_back : (m : ℕ) → IsOnTheWay (negsuc m) (pos 0)
none_back m = record {
  forwards = λ up. absurd (omega (arith, ints, up));
  backwards = λ down. (omega (arith, ints), omega (arith, ints));
}

-- a part lies between nothing and the whole
pub part_on_the_way : (d : ℤ) (s : ℕ) → s ≤ 33 → IsOnTheWay d (part_of d s)
part_on_the_way (pos m) s h =
    let within : m * s / 33 ≤ m = omega (arith, times_forwards m s h) in
    record {
      forwards = λ up. (omega (arith, ints), omega (arith, ints, within));
      backwards = λ down. (omega (arith, ints, within, down), omega (arith, ints, within, down));
    }
part_on_the_way (negsuc m) zero h =
    let Way : ℕ → Type 0 = λ n. IsOnTheWay (negsuc m) (int_div_euclid (neg_ℤ (pos n)) (pos 33)) in
    let none : 0 ≡ suc m * 0 = omega arith in
    subst Way none (none_back m)
part_on_the_way (negsuc m) (suc s) h =
    let Way : ℕ → Type 0 = λ n. IsOnTheWay (negsuc m) (int_div_euclid (neg_ℤ (pos n)) (pos 33)) in
    let k : ℕ = m + suc m * s in
    let some : suc k ≡ suc m * suc s = omega arith in
    subst Way some (part_back m k (omega (arith, some, times_forwards (suc m) (suc s) h)))

-- a step from a on the way to b stays as near to the origin as both
pub step_within : (n : ℕ) (a b part : ℤ) → IsWithin n a → IsWithin n b → IsOnTheWay (b -ℤ a) part → IsWithin n (a +ℤ part)
step_within n a b part at_a at_b way =
    by_lt_z b a
    (λ back. record {
      low = omega (arith, ints, at_a.low, at_b.low, way.backwards (omega (arith, ints)));
      high = omega (arith, ints, at_a.high, at_b.high, way.backwards (omega (arith, ints)));
    })
    (λ on. record {
      low = omega (arith, ints, at_a.low, at_b.low, way.forwards (omega (arith, ints)));
      high = omega (arith, ints, at_a.high, at_b.high, way.forwards (omega (arith, ints)));
    })
