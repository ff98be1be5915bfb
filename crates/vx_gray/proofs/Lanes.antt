-- A mask of sixty-four pixels, last first, is their packed row, byte by byte from its top.
use Rattle.std.proofs.Common.{◌≡◌, ℕ, zero, suc, ◌+◌, ◌*◌, ◌/◌, ◌%◌, ◌^◌, ◌<◌, ◌≤◌, ◌++◌, Bool, true, false, cond, List, map, length, take, get_or, nat_lt, refl, ap, ap₂, sym, ◌∙◌, arith, inl, inr, length-take, w64}
use Rattle.std.specs.Int.{to_be_bytes, from_be_bytes}
use Rattle.std.specs.List.{range_with_len}
use Rattle.std.proofs.lemmas.Bool.{cases_lt}
use Rattle.std.proofs.lemmas.List.{length-map, get_or-map, get_or-take, get_or_append_left, get_or_past}
use Rattle.std.proofs.lemmas.List.FromFn.{get_or-map-range_with_len, length-map-range_with_len}
use Rattle.std.proofs.lemmas.Nat.{be_bytes_8}
use Rattle.vx_plane.specs.Count.{one_if}
use Rattle.vx_bits.specs.Packed.{packed_byte, packed_row}
use Rattle.vx_gray.specs.Packing.{below}
use lib.Lanes.{top}

-- what a mask tells of a lane in which a test was made
abbrev pub lane : Bool → ℕ
lane holds = cond (top 7 (cond holds 255 0)) 1 0

lane_is : (holds : Bool) → lane holds ≡ one_if holds
lane_is true = refl
lane_is false = refl

one_at_most : (holds : Bool) → one_if holds ≤ 1
one_at_most true = omega arith
one_at_most false = omega arith

-- the lane of a pixel of the reversed ones
abbrev pub at : List ℕ → ℕ → ℕ → ℕ
at pixels half n = lane (nat_lt (get_or (take 64 pixels ++ take 64 pixels) n 0) half)

at_is : (pixels : List ℕ) (half n : ℕ) → length pixels ≡ 64 → n < 64 → at pixels half n ≡ one_if (get_or (below half pixels) n false)
at_is pixels half n long h =
    ap (λ value. lane (nat_lt value half)) (get_or_append_left (take 64 pixels) (take 64 pixels) 0 n (omega (arith, length-take 64 pixels)) ∙ get_or-take 64 pixels n 0 h)
    ∙ (lane_is (nat_lt (get_or pixels n 0) half)
    ∙ ap one_if (sym (get_or-map (λ value. nat_lt value half) pixels n 0 false (omega arith))))

-- the number of the first bits of a family, the first of them the highest
unfoldable pub number_of : (ℕ → ℕ) → ℕ → ℕ
number_of bit zero = zero
number_of bit (suc n) = bit n + 2 * number_of bit n

number-same : (one other : ℕ → ℕ) (n : ℕ) → ((i : ℕ) → i < n → one i ≡ other i) → number_of one n ≡ number_of other n
unfolding number_of
number-same one other zero same = refl
number-same one other (suc n) same =
    ap₂ (λ b m. b + 2 * m) (same n (omega arith)) (number-same one other n (λ i h. same i (omega arith)))

number_of_none : (bit : ℕ → ℕ) → number_of bit 0 ≡ 0
unfolding number_of
number_of_none bit = refl

-- the pixels of a row as bits
abbrev bit_of : List Bool → ℕ → ℕ
bit_of row n = one_if (get_or row n false)

-- eight bits more are a byte more
byte_more : (bit : ℕ → ℕ) (n : ℕ) → number_of bit (suc (suc (suc (suc (suc (suc (suc (suc n)))))))) ≡ 256 * number_of bit n
    + (128 * bit n + 64 * bit (suc n) + 32 * bit (suc (suc n)) + 16 * bit (suc (suc (suc n))) + 8 * bit (suc (suc (suc (suc n))))
    + 4 * bit (suc (suc (suc (suc (suc n))))) + 2 * bit (suc (suc (suc (suc (suc (suc n)))))) + bit (suc (suc (suc (suc (suc (suc (suc n))))))))
unfolding number_of
byte_more bit n = omega arith

byte_at_most : (row : List Bool) (k : ℕ) → packed_byte row k ≤ 255
byte_at_most row k =
    omega (
      arith,
      one_at_most (get_or row (8 * k) false),
      one_at_most (get_or row (8 * k + 1) false),
      one_at_most (get_or row (8 * k + 2) false),
      one_at_most (get_or row (8 * k + 3) false),
      one_at_most (get_or row (8 * k + 4) false),
      one_at_most (get_or row (8 * k + 5) false),
      one_at_most (get_or row (8 * k + 6) false),
      one_at_most (get_or row (8 * k + 7) false),
    )

-- the bytes of a row of sixty-four pixels
eight_bytes : (row : List Bool) → length row ≡ 64 → packed_row row ≡ map (packed_byte row) (range_with_len 0 8)
unfolding packed_row
eight_bytes row long =
    let eight : (length row + 7) / 8 ≡ 8 = omega arith in
    ap (λ n. map (packed_byte row) (range_with_len 0 n)) eight

byte_fits : (row : List Bool) (i : ℕ) → get_or (map (packed_byte row) (range_with_len 0 8)) i 0 < 256
byte_fits row i = elim (cases_lt i 8) [
  | inl h ↦
      let is : get_or (map (packed_byte row) (range_with_len 0 8)) i 0 ≡ packed_byte row i = get_or-map-range_with_len (packed_byte row) 0 8 i i 0 h (omega arith) in
      omega (arith, byte_at_most row i)
  | inr h ↦
      let is : get_or (map (packed_byte row) (range_with_len 0 8)) i 0 ≡ 0 = get_or_past (map (packed_byte row) (range_with_len 0 8)) i 0
      (omega (arith, length-map-range_with_len (packed_byte row) 0 8)) in
      omega arith
]

-- a number of eight bytes
joined : (a b c d e f g h : ℕ) → a ≤ 255 → b ≤ 255 → c ≤ 255 → d ≤ 255 → e ≤ 255 → f ≤ 255 → g ≤ 255 → h ≤ 255
    → (256 * (256 * (256 * (256 * (256 * (256 * (256 * a + b) + c) + d) + e) + f) + g) + h) % 2 ^ 64
    ≡ 256 * (256 * (256 * (256 * (256 * (256 * (256 * a + b) + c) + d) + e) + f) + g) + h
joined a b c d e f g h la lb lc ld le lf lg lh = omega arith

-- the number of a row's sixty-four bits is that of its eight bytes
number_is : (row : List Bool) → number_of (bit_of row) 64 % 2 ^ 64 ≡ from_be_bytes w64 (map (packed_byte row) (range_with_len 0 8))
number_is row =
    let most : (k : ℕ) → packed_byte row k ≤ 255 = byte_at_most row in
    let none : number_of (bit_of row) 0 ≡ 0 = number_of_none (bit_of row) in
    let all : number_of (bit_of row) 64 ≡ 256 * (256 * (256 * (256 * (256 * (256 * (256 * packed_byte row 0 + packed_byte row 1) + packed_byte row 2) + packed_byte row 3) + packed_byte row 4) + packed_byte row 5) + packed_byte row 6) + packed_byte row 7 =
    omega (
      arith,
      none,
      byte_more (bit_of row) 0,
      byte_more (bit_of row) 8,
      byte_more (bit_of row) 16,
      byte_more (bit_of row) 24,
      byte_more (bit_of row) 32,
      byte_more (bit_of row) 40,
      byte_more (bit_of row) 48,
      byte_more (bit_of row) 56,
    ) in
    ap (λ n. n % 2 ^ 64) all
    ∙ (joined _ _ _ _ _ _ _ _ (most 0) (most 1) (most 2) (most 3) (most 4) (most 5) (most 6) (most 7)
    ∙ omega arith)

-- a mask of sixty-four pixels, last first, is their packed row
pub mirrored : (pixels : List ℕ) (half : ℕ) → length pixels ≡ 64
    → to_be_bytes w64 (number_of (at pixels half) 64 % 2 ^ 64) ≡ packed_row (below half pixels)
mirrored pixels half long =
    let row : List Bool = below half pixels in
    let size : length row ≡ 64 = length-map pixels (λ value. nat_lt value half) ∙ long in
    be_bytes_8 (map (packed_byte row) (range_with_len 0 8)) (number_of (at pixels half) 64 % 2 ^ 64)
    (length-map-range_with_len (packed_byte row) 0 8) (byte_fits row)
    (ap (λ n. n % 2 ^ 64) (number-same (at pixels half) (bit_of row) 64 (λ n h. at_is pixels half n long h)) ∙ number_is row)
    ∙ sym (eight_bytes row size)
