-- Tests of numbers.
use Rattle.std.proofs.Common.{◌≡◌, ℕ, ◌<◌, ◌≤◌, ◌==◌, true, false, arith}
use Rattle.std.specs.Prelude.{nat_lt, nat_le}
use Rattle.std.proofs.lemmas.Bool.Decides.{nat_tests}

pub equal-yes : (m n : ℕ) → m ≡ n → (m == n) ≡ true
equal-yes m n h = grind (arith, nat_tests)

pub equal-no : (m n : ℕ) → (m ≡ n → ⊥) → (m == n) ≡ false
equal-no m n h = grind (arith, nat_tests)

pub equal-from_yes : (m n : ℕ) → (m == n) ≡ true → m ≡ n
equal-from_yes m n h = grind (arith, nat_tests)

pub below-yes : (m n : ℕ) → m < n → nat_lt m n ≡ true
below-yes m n h = grind (arith, nat_tests)

pub below-no : (m n : ℕ) → n ≤ m → nat_lt m n ≡ false
below-no m n h = grind (arith, nat_tests)

pub below-from_yes : (m n : ℕ) → nat_lt m n ≡ true → m < n
below-from_yes m n h = grind (arith, nat_tests)

pub below-from_no : (m n : ℕ) → nat_lt m n ≡ false → n ≤ m
below-from_no m n h = grind (arith, nat_tests)

pub at_most-yes : (m n : ℕ) → m ≤ n → nat_le m n ≡ true
at_most-yes m n h = grind (arith, nat_tests)

pub at_most-from_yes : (m n : ℕ) → nat_le m n ≡ true → m ≤ n
at_most-from_yes m n h = grind (arith, nat_tests)
