-- Laws of the bits of packed bytes: chosen by a mask, moved along, changed.
use Rattle.std.proofs.Common.{◌≡◌, ◌≢◌, ℕ, zero, suc, ◌+◌, ◌-◌, ◌*◌, ◌/◌, ◌%◌, ◌^◌, ◌<◌, ◌≤◌, ◌==◌, min, max, cond, nat_lt, Bool, true, false, List, length, get_or, set, bit_and, bit_or, refl, ap, ap₂, sym, ◌∙◌, inl, inr, arith, pow_pos, shr-shr, w8, get_or-set_same, get_or-set_other}
use Rattle.std.specs.Int.{bit_at, bit_not}
use Rattle.std.specs.Int.RustNames.{bit_xor}
use Rattle.std.proofs.lemmas.Bool.{cases_lt}
use Rattle.std.proofs.lemmas.Nat.Bits.{bit_at-lt, bit_at-zero, bit_at_and, bit_at_or, bit_at_xor, bit_at_not, bit_at_above, bit_at_cat_low, bit_at_cat_high}
use Rattle.vx_bits.specs.Packed.{packed_pixel}
use Rattle.vx_margin.specs.Flips.{differ}

-- one of two bits, by a third
choice : (here elsewhere mask : ℕ) → here < 2 → elsewhere < 2 → mask < 2 → max (min here mask) (min elsewhere (1 - mask)) ≡ cond (mask == 1) here elsewhere
choice here elsewhere zero a b c = omega arith
choice here elsewhere (suc zero) a b c = omega arith
choice here elsewhere (suc (suc mask)) a b c = absurd (omega arith)

-- the bits of one byte where a mask has them, those of another elsewhere
pub chosen-bit : (here elsewhere mask j : ℕ) → mask < 256 → j < 8
    → bit_at (bit_or (bit_and here mask) (bit_and elsewhere (bit_not w8 mask))) j ≡ cond (bit_at mask j == 1) (bit_at here j) (bit_at elsewhere j)
chosen-bit here elsewhere mask j small few =
    let other : bit_at (bit_not w8 mask) j ≡ 1 - bit_at mask j = bit_at_not w8 mask j small few in
    bit_at_or (bit_and here mask) (bit_and elsewhere (bit_not w8 mask)) j
    ∙ ap₂ max (bit_at_and here mask j) (bit_at_and elsewhere (bit_not w8 mask) j ∙ ap (min (bit_at elsewhere j)) other)
    ∙ choice (bit_at here j) (bit_at elsewhere j) (bit_at mask j) (bit_at-lt _ _) (bit_at-lt _ _) (bit_at-lt _ _)

-- a byte's low bits
low-bit : (n j : ℕ) → j < 8 → bit_at (n % 2 ^ 8) j ≡ bit_at n j
low-bit n j few =
    let whole : n / 2 ^ 8 * 2 ^ 8 + n % 2 ^ 8 ≡ n = omega arith in
    sym (bit_at_cat_low (n / 2 ^ 8) 8 (n % 2 ^ 8) j few) ∙ ap (λ m. bit_at m j) whole

-- a byte moved to the left
left-high : (n skip j : ℕ) → skip ≤ j → j < 8 → bit_at (n * 2 ^ skip % 2 ^ 8) j ≡ bit_at n (j - skip)
left-high n skip j from few =
    let none : n * 2 ^ skip + 0 ≡ n * 2 ^ skip = omega arith in
    let some : 0 < 2 ^ skip = pow_pos skip in
    low-bit (n * 2 ^ skip) j few ∙ ap (λ m. bit_at m j) (sym none) ∙ bit_at_cat_high n skip 0 j some from

left-low : (n skip j : ℕ) → j < skip → j < 8 → bit_at (n * 2 ^ skip % 2 ^ 8) j ≡ 0
left-low n skip j before few =
    let none : n * 2 ^ skip + 0 ≡ n * 2 ^ skip = omega arith in
    low-bit (n * 2 ^ skip) j few ∙ ap (λ m. bit_at m j) (sym none) ∙ bit_at_cat_low n skip 0 j before ∙ bit_at-zero j

-- a byte moved to the right
right-bit : (n k j : ℕ) → bit_at (n / 2 ^ k) j ≡ bit_at n (k + j)
right-bit n k j = ap (λ m. m % 2) (shr-shr n k j)

-- eight pixels of two bytes, from a pixel of the first on
pub eight-bit : (first second skip i : ℕ) → second < 256 → skip < 8 → i < 8
    → bit_at (bit_or (first * 2 ^ skip % 2 ^ 8) (second / 2 ^ 1 / 2 ^ (7 - skip))) (7 - i)
    ≡ cond (nat_lt (skip + i) 8) (bit_at first (7 - (skip + i))) (bit_at second (15 - (skip + i)))
eight-bit first second skip i small few here =
    let together : 1 + (7 - skip) + (7 - i) ≡ 15 - (skip + i) = omega arith in
    let later : bit_at (second / 2 ^ 1 / 2 ^ (7 - skip)) (7 - i) ≡ bit_at second (15 - (skip + i)) =
    ap (λ m. bit_at m (7 - i)) (shr-shr second 1 (7 - skip)) ∙ right-bit second (1 + (7 - skip)) (7 - i) ∙ ap (bit_at second) together in
    bit_at_or (first * 2 ^ skip % 2 ^ 8) (second / 2 ^ 1 / 2 ^ (7 - skip)) (7 - i)
    ∙ (elim (cases_lt (skip + i) 8) [
      | inl inside ↦
          let place : 7 - i - skip ≡ 7 - (skip + i) = omega arith in
          let is : nat_lt (skip + i) 8 ≡ true = grind arith in
          ap₂ max (left-high first skip (7 - i) (omega arith) (omega arith) ∙ ap (bit_at first) place) (later ∙ bit_at_above second 8 (15 - (skip + i)) small (omega arith))
          ∙ max-none (bit_at first (7 - (skip + i)))
          ∙ ap (λ (b : Bool). cond b (bit_at first (7 - (skip + i))) (bit_at second (15 - (skip + i)))) (sym is)
      | inr past ↦
          let is : nat_lt (skip + i) 8 ≡ false = grind arith in
          ap₂ max (left-low first skip (7 - i) (omega arith) (omega arith)) later
          ∙ none-max (bit_at second (15 - (skip + i)))
          ∙ ap (λ (b : Bool). cond b (bit_at first (7 - (skip + i))) (bit_at second (15 - (skip + i)))) (sym is)
    ])
  where
    max-none : (n : ℕ) → max n 0 ≡ n
    max-none n = omega arith

    none-max : (n : ℕ) → max 0 n ≡ n
    none-max n = omega arith

-- a bit that was changed
changed : (old by : ℕ) → old < 2 → by < 2 → ((old + by) % 2 == 1) ≡ differ (old == 1) (by == 1)
changed zero zero a b = refl
changed zero (suc zero) a b = refl
changed (suc zero) zero a b = refl
changed (suc zero) (suc zero) a b = refl
changed zero (suc (suc by)) a b = absurd (omega arith)
changed (suc zero) (suc (suc by)) a b = absurd (omega arith)
changed (suc (suc old)) by a b = absurd (omega arith)

pub changed-bit : (old by j : ℕ) → (bit_at (bit_xor old by) j == 1) ≡ differ (bit_at old j == 1) (bit_at by j == 1)
changed-bit old by j =
    ap (λ (n : ℕ). n == 1) (bit_at_xor old by j) ∙ changed (bit_at old j) (bit_at by j) (bit_at-lt old j) (bit_at-lt by j)

-- a pixel of a byte that was written, and of any other
pub written-here : (bytes : List ℕ) (k x byte : ℕ) → k < length bytes → x / 8 ≡ k → packed_pixel (set bytes k byte) 0 x ≡ (bit_at byte (7 - x % 8) == 1)
written-here bytes k x byte within is =
    let place : 0 + x / 8 ≡ k = omega arith in
    ap (λ b. bit_at b (7 - x % 8) == 1) (ap (λ i. get_or (set bytes k byte) i 0) place ∙ get_or-set_same bytes k byte 0 within)

pub written-elsewhere : (bytes : List ℕ) (k x byte : ℕ) → x / 8 ≢ k → packed_pixel (set bytes k byte) 0 x ≡ packed_pixel bytes 0 x
written-elsewhere bytes k x byte apart =
    let other : 0 + x / 8 ≢ k = λ is. apart (omega arith) in
    ap (λ b. bit_at b (7 - x % 8) == 1) (get_or-set_other bytes k (0 + x / 8) byte 0 other)
