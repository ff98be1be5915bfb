-- The first 20 bits of a digest.
use Rattle.std.proofs.Common.{◌≡◌, ℕ, ◌+◌, ◌*◌, ◌/◌, ◌^◌, ◌<◌, ◌≤◌, ap, List, [], ◌∷◌, ◌++◌, length, take, slice_index, zero, suc, refl, arith, length-append, append_assoc, add_comm}
use Rattle.std.specs.Int.{bit_at}
use Rattle.std.specs.List.{flat_map}
use Rattle.std.proofs.lemmas.List.{length-take}
use Rattle.std.proofs.lemmas.Nat.{pow-add}
use Rattle.std.proofs.Math.Nat.{div-div-eq-div-mul, pow-le-pow_right}
use Rattle.vx_base.proofs.Lists.{take-front}
use Rattle.vx_code.specs.Bits.{bits_of_number, number_of_bits}
use Rattle.vx_code.specs.Code.{tag_of}
use Rattle.vx_code.proofs.Numbers.{length-bits_of_number, number_of_bits-lt, number_of_bits-append, number_of_bits-bits_of_number}

-- a bit of a number that is moved down
bit_at-div : (n high low : ℕ) → bit_at (n / 2 ^ low) high ≡ bit_at n (high + low)
bit_at-div n high low = rw (div-div-eq-div-mul, add_comm high low, pow-add) refl

-- the bits of a number are the bits of its upper part and those of its lower part
bits_of_number-split : (high low n : ℕ) → bits_of_number (high + low) n ≡ bits_of_number high (n / 2 ^ low) ++ bits_of_number low n
unfolding bits_of_number
bits_of_number-split zero low n = ap (λ w. bits_of_number w n) (omega arith)
bits_of_number-split (suc high) low n =
    let next : suc high + low ≡ suc (high + low) = omega arith in
    rw (next, bit_at-div n high low, bits_of_number-split high low n) refl

three_parts : (a b c : ℕ) → a < 256 → b < 256 → c < 16 →
    number_of_bits (bits_of_number 8 a ++ (bits_of_number 8 b ++ bits_of_number 4 c)) ≡ a * 4096 + b * 16 + c
three_parts a b c first second third =
    let back = bits_of_number 8 b ++ bits_of_number 4 c in
    let size : length back ≡ 12 = simp (length-append, length-bits_of_number) in
    let last : length (bits_of_number 4 c) ≡ 4 = length-bits_of_number 4 c in
    rw (number_of_bits-append (bits_of_number 8 a) back, size, number_of_bits-append (bits_of_number 8 b) (bits_of_number 4 c), last, number_of_bits-bits_of_number 8 a first, number_of_bits-bits_of_number 8 b second, number_of_bits-bits_of_number 4 c third)
    (omega arith)

-- the tag is two bytes and a half
pub tag_of-bytes : (digest : List ℕ) → 3 ≤ length digest → slice_index digest 0 < 256 → slice_index digest 1 < 256 → slice_index digest 2 < 256 →
    tag_of digest ≡ slice_index digest 0 * 4096 + slice_index digest 1 * 16 + slice_index digest 2 / 16
unfolding tag_of
tag_of-bytes [] room first second third = absurd (omega arith)
tag_of-bytes (a ∷ []) room first second third = absurd (omega arith)
tag_of-bytes (a ∷ b ∷ []) room first second third = absurd (omega arith)
tag_of-bytes (a ∷ b ∷ c ∷ rest) room first second third =
    let front = bits_of_number 8 a ++ (bits_of_number 8 b ++ bits_of_number 4 (c / 2 ^ 4)) in
    let back = bits_of_number 4 c ++ flat_map (bits_of_number 8) rest in
    let parts : flat_map (bits_of_number 8) (a ∷ b ∷ c ∷ rest) ≡ front ++ back = rw (bits_of_number-split 4 4 c) (simp append_assoc) in
    let size : length front ≡ 20 = simp (length-append, length-bits_of_number) in
    rw (parts, take-front front back 20 size) (three_parts a b (c / 2 ^ 4) first second (omega arith))

-- it has at most 20 bits
pub tag_of-lt : (digest : List ℕ) → tag_of digest < 2 ^ 20
unfolding tag_of
tag_of-lt digest =
    let bits = take 20 (flat_map (bits_of_number 8) digest) in
    let few : length bits ≤ 20 = omega (arith, length-take 20 (flat_map (bits_of_number 8) digest)) in
    let some : 0 < 2 = omega arith in
    let most : 2 ^ length bits ≤ 2 ^ 20 = pow-le-pow_right some few in
    omega (arith, number_of_bits-lt bits, most)
