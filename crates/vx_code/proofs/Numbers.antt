-- Lists of bits and their numbers, the most significant bit first.
use Rattle.std.proofs.Common.{◌≡◌, ℕ, ◌+◌, ◌-◌, ◌*◌, ◌/◌, ◌%◌, ◌^◌, ◌<◌, ◌≤◌, ◌==◌, ◌∙◌, sym, ap, List, [], ◌∷◌, ◌++◌, Bool, true, false, length, slice_index_or, zero, suc, refl, arith, length-append, add-one}
use Rattle.std.specs.Int.{bit_at, from_bool}
use Rattle.std.proofs.lemmas.Bool.Decides.{nat_tests}
use Rattle.std.proofs.lemmas.Nat.{div-mul-add, pow-add}
use Rattle.std.proofs.lemmas.Nat.Bits.{bit_at-suc, bit_at_lowest}
use Rattle.std.proofs.Math.Nat.{pow-suc, mul-add-div_right, one-le-pow}
use Rattle.vx_code.specs.Bits.{bits_of_number, number_of_bits}

pub length-bits_of_number : (width n : ℕ) → length (bits_of_number width n) ≡ width
unfolding bits_of_number
length-bits_of_number zero n = refl
length-bits_of_number (suc width) n = ap suc (length-bits_of_number width n)

pub from_bool-le : (bit : Bool) → from_bool bit ≤ 1
from_bool-le true = omega arith
from_bool-le false = omega arith

-- a bit is the test of its number
pub from_bool-back : (bit : Bool) → (from_bool bit == 1) ≡ bit
from_bool-back true = refl
from_bool-back false = refl

from_bool-rest : (bit : Bool) → (from_bool bit % 2 == 1) ≡ bit
from_bool-rest true = refl
from_bool-rest false = refl

-- a number below two is that of its test
pub from_bool-test : (n : ℕ) → n < 2 → from_bool (n == 1) ≡ n
from_bool-test n h = grind (arith, nat_tests)

positive : (width : ℕ) → 0 < 2 ^ width
positive width = one-le-pow width 2 (omega arith)

-- twice a power is the next one
twice_power : (k width : ℕ) → k * 2 ^ suc width ≡ (k * 2) * 2 ^ width
twice_power k width = rw pow-suc (omega arith)

below_next : (bit r power : ℕ) → bit ≤ 1 → r < power → bit * power + r < power * 2
below_next zero r power b h = omega arith
below_next (suc zero) r power b h = omega arith
below_next (suc (suc bit)) r power b h = absurd (omega arith)

-- a number is below the power of two of its length
pub number_of_bits-lt : (bits : List Bool) → number_of_bits bits < 2 ^ length bits
unfolding number_of_bits
number_of_bits-lt [] = omega arith
number_of_bits-lt (bit ∷ rest) = rw pow-suc (below_next (from_bool bit) (number_of_bits rest) (2 ^ length rest) (from_bool-le bit) (number_of_bits-lt rest))

-- the number of two lists of bits, one after the other
pub number_of_bits-append : (front back : List Bool) → number_of_bits (front ++ back) ≡ number_of_bits front * 2 ^ length back + number_of_bits back
unfolding number_of_bits
number_of_bits-append [] back = omega arith
number_of_bits-append (bit ∷ rest) back =
    let here : 2 ^ length (rest ++ back) ≡ 2 ^ length rest * 2 ^ length back = rw length-append (pow-add 2 (length rest) (length back)) in
    rw (here, number_of_bits-append rest back) (omega arith)

-- the number of bits with one more at the end
pub number_of_bits-more : (bits : List Bool) (bit : Bool) → number_of_bits (bits ++ bit ∷ []) ≡ number_of_bits bits * 2 + from_bool bit
unfolding number_of_bits
number_of_bits-more bits bit = let both = number_of_bits-append bits (bit ∷ []) in omega arith

-- the bits of twice a number, with one bit more at the end
pub bits_of_number-more : (width n : ℕ) (bit : Bool) → bits_of_number (suc width) (n * 2 + from_bool bit) ≡ bits_of_number width n ++ bit ∷ []
unfolding bits_of_number
bits_of_number-more zero n true = let odd : (n * 2 + 1) % 2 ≡ 1 = omega arith in rw (bit_at_lowest, odd) refl
bits_of_number-more zero n false = let even : (n * 2 + 0) % 2 ≡ 0 = omega arith in rw (bit_at_lowest, even) refl
bits_of_number-more (suc width) n bit =
    let half : (n * 2 + from_bool bit) / 2 ≡ n = let b = from_bool-le bit in omega arith in
    rw (bit_at-suc (n * 2 + from_bool bit) width, half) (ap (λ rest. (bit_at n width == 1) ∷ rest) (bits_of_number-more width n bit))

number_of_no_bits : (n : ℕ) → number_of_bits (bits_of_number 0 n) ≡ 0
unfolding bits_of_number number_of_bits
number_of_no_bits n = refl

-- the number of the bits of a number is that number, where it fits
pub number_of_bits-bits_of_number : (width n : ℕ) → n < 2 ^ width → number_of_bits (bits_of_number width n) ≡ n
number_of_bits-bits_of_number zero n fits = number_of_no_bits n ∙ omega arith
number_of_bits-bits_of_number (suc width) n fits =
    let halves : n ≡ (n / 2) * 2 + from_bool (n % 2 == 1) = rw (from_bool-test (n % 2) (omega arith)) (omega arith) in
    let lower : n / 2 < 2 ^ width = (let f : n < 2 ^ width * 2 = rw pow-suc at fits in omega arith) in
    ap (λ m. number_of_bits (bits_of_number (suc width) m)) halves
    ∙ ap number_of_bits (bits_of_number-more width (n / 2) (n % 2 == 1))
    ∙ number_of_bits-more (bits_of_number width (n / 2)) (n % 2 == 1)
    ∙ ap (λ m. m * 2 + from_bool (n % 2 == 1)) (number_of_bits-bits_of_number width (n / 2) lower)
    ∙ sym halves

-- the lowest bits of a number are those of its rest
bits_of_number-high : (width k n : ℕ) → bits_of_number width (k * 2 ^ width + n) ≡ bits_of_number width n
unfolding bits_of_number
bits_of_number-high zero k n = refl
bits_of_number-high (suc width) k n =
    let same : bit_at (k * 2 * 2 ^ width + n) width ≡ bit_at n width = rw (mul-add-div_right {m = 2 ^ width} (positive width) (k * 2) n) (omega arith) in
    rw (twice_power k width, same) (ap (λ rest. (bit_at n width == 1) ∷ rest) (bits_of_number-high width (k * 2) n))

-- the bits of the number of a list of bits are that list
pub bits_of_number-number_of_bits : (bits : List Bool) → bits_of_number (length bits) (number_of_bits bits) ≡ bits
unfolding bits_of_number number_of_bits
bits_of_number-number_of_bits [] = refl
bits_of_number-number_of_bits (bit ∷ rest) =
    let low : number_of_bits rest < 2 ^ length rest = number_of_bits-lt rest in
    let first : (bit_at (from_bool bit * 2 ^ length rest + number_of_bits rest) (length rest) == 1) ≡ bit = rw (div-mul-add (from_bool bit) (2 ^ length rest) (number_of_bits rest) low) (from_bool-rest bit) in
    rw (first, bits_of_number-high (length rest) (from_bool bit) (number_of_bits rest), bits_of_number-number_of_bits rest) refl

-- one bit of a number
pub get-bits_of_number : (width n i : ℕ) → i < width → slice_index_or (bits_of_number width n) i false ≡ (bit_at n (width - 1 - i) == 1)
unfolding bits_of_number
get-bits_of_number zero n i h = absurd (omega arith)
get-bits_of_number (suc width) n zero h = let e : suc width - 1 - 0 ≡ width = omega arith in rw e refl
get-bits_of_number (suc width) n (suc i) h = let e : suc width - 1 - suc i ≡ width - 1 - i = omega arith in rw e (get-bits_of_number width n i (omega arith))

-- twice a number and a bit fit one bit more
pub fits_more : (width n : ℕ) (bit : Bool) → n < 2 ^ width → n * 2 + from_bool bit < 2 ^ (width + 1)
fits_more width n bit h = let b = from_bool-le bit in rw (add-one, pow-suc) (omega arith)
