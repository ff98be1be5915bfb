-- Whole numbers of 64 bits that are near the origin.
use Rattle.std.proofs.Common.{◌≡◌, ◌≤◌, ℕ, ℤ, ◌+ℤ◌, ◌-ℤ◌, to_z, of_z, w64, arith, subst, sym}
use Rattle.std.proofs.lemmas.Int.{ints}
use Rattle.vx_grid.specs.Places.{IsWithin}
use Rattle.vx_fit.specs.Fit.{part_of, IsOnTheWay}
use Rattle.vx_desk.proofs.Ways.{part_on_the_way, step_within}

-- they are kept as they are
pub same_wide : (z : ℤ) → IsWithin 4294967296 z → to_z w64 (of_z w64 z) ≡ z
same_wide z near = omega (arith, ints, near.low, near.high)

pub wider : (z : ℤ) → IsWithin 2147483648 z → IsWithin 4294967296 z
wider z near = record { low = omega (arith, ints, near.low, near.high); high = omega (arith, ints, near.low, near.high) }

-- a part of the way from a on
pub step_near : (a b part : ℤ) (s : ℕ) → s ≤ 33 → IsWithin 2147483648 a → IsWithin 2147483648 b → part ≡ part_of (b -ℤ a) s → IsWithin 2147483648 (a +ℤ part)
step_near a b part s h at_a at_b is =
    let OnTheWay : ℤ → Type 0 = λ z. IsOnTheWay (b -ℤ a) z in
    step_within 2147483648 a b part at_a at_b (subst OnTheWay (sym is) (part_on_the_way (b -ℤ a) s h))
