-- Whole numbers with a sign.
use Rattle.std.proofs.Common.{◌≡◌, ℕ, ℤ, pos, negsuc, ◌≤ℤ◌, refl, arith}
use Rattle.std.proofs.lemmas.Int.{ints}

-- a whole number from 0 on
pub natural-of : (z : ℤ) → pos 0 ≤ℤ z → (n : ℕ) × (z ≡ pos n)
natural-of (pos n) h = (n, refl)
natural-of (negsuc n) h = absurd (omega (arith, ints))
