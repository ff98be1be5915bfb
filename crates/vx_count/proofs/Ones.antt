-- The ones of a number by its bits, and the bits of a word by its bytes.
use Rattle.std.proofs.Common.{◌≡◌, ℕ, zero, suc, ◌+◌, ◌-◌, ◌*◌, ◌/◌, ◌%◌, ◌^◌, ◌<◌, ◌≤◌, List, length, get_or, ℤ, pos, ◌+ℤ◌, ap, sym, subst, ◌∙◌, arith, w64}
use Rattle.std.specs.Int.{bit_at, from_be_bytes, to_be_bytes}
use Rattle.std.specs.Int.Count.{ones}
use Rattle.std.proofs.lemmas.Nat.{be_bytes_8, div-add-mod', pow_pos, shr-shr, shr_below, ones_le_self}
use Rattle.std.proofs.lemmas.Nat.Bits.{bit_at_lowest, bit_at-suc, bit_at_cat_low, bit_at_cat_high}
use lib.Count.{ones_step}
use Rattle.vx_plane.specs.Plane.{Pixels}
use Rattle.vx_plane.specs.Count.{one_if, count_in}
use Rattle.vx_plane.proofs.Counts.{count_in-columns, count_in-no_columns, count_in-one}

-- a number of n bits has as many ones as a row's run of n places that its bits stand for, the highest first
pub ones-count : (n word : ℕ) (left row : ℤ) (set : Pixels) → word < 2 ^ n → ((i : ℕ) → i < n → bit_at word (n - 1 - i) ≡ one_if (set (left +ℤ pos i) row)) → ones word ≡ count_in left row n 1 set
ones-count zero word left row set small bits =
    let none : word ≡ 0 = omega arith in
    let empty : ones 0 ≡ 0 = omega (arith, ones_le_self 0) in
    ap ones none ∙ empty ∙ sym (count_in-no_columns left row 1 set)
ones-count (suc n) word left row set small bits =
    let more : suc n ≡ n + 1 = omega arith in
    let half : word / 2 < 2 ^ n = shr_below word n 1 (subst (λ k. word < 2 ^ k) more small) in
    let rest : ones (word / 2) ≡ count_in left row n 1 set =
    ones-count n (word / 2) left row set half (λ i h.
    let place : suc (n - 1 - i) ≡ suc n - 1 - i = omega arith in
    sym (bit_at-suc word (n - 1 - i)) ∙ ap (bit_at word) place ∙ bits i (omega arith)) in
    let lowest : suc n - 1 - n ≡ 0 = omega arith in
    let last : word % 2 ≡ count_in (left +ℤ pos n) row 1 1 set =
    sym (bit_at_lowest word) ∙ ap (bit_at word) (sym lowest) ∙ bits n (omega arith) ∙ sym (count_in-one (left +ℤ pos n) row set) in
    ones_step word ∙ omega (arith, count_in-columns left row n 1 1 set) ∙ ap (λ k. count_in left row k 1 set) (sym more)

-- a bit of a byte of a number
byte-bit : (word j k : ℕ) → k < 8 → bit_at (word / 2 ^ j % 256) k ≡ bit_at word (j + k)
byte-bit word j k h =
    sym (bit_at_cat_low (word / 2 ^ j / 256) 8 (word / 2 ^ j % 256) k h)
    ∙ ap (λ n. bit_at n k) (div-add-mod' (word / 2 ^ j) 256)
    ∙ ap (λ n. n % 2) (shr-shr word j k)

-- the bytes of a number of eight bytes
byte-of : (bs : List ℕ) (word j : ℕ) → to_be_bytes w64 word ≡ bs → j < 8 → get_or bs j 0 ≡ word / 2 ^ (8 * (7 - j)) % 256
byte-of bs word zero e h = sym (ap (λ (l : List ℕ). get_or l 0 0) e)
byte-of bs word (suc zero) e h = sym (ap (λ (l : List ℕ). get_or l 1 0) e)
byte-of bs word (suc (suc zero)) e h = sym (ap (λ (l : List ℕ). get_or l 2 0) e)
byte-of bs word (suc (suc (suc zero))) e h = sym (ap (λ (l : List ℕ). get_or l 3 0) e)
byte-of bs word (suc (suc (suc (suc zero)))) e h = sym (ap (λ (l : List ℕ). get_or l 4 0) e)
byte-of bs word (suc (suc (suc (suc (suc zero))))) e h = sym (ap (λ (l : List ℕ). get_or l 5 0) e)
byte-of bs word (suc (suc (suc (suc (suc (suc zero)))))) e h = sym (ap (λ (l : List ℕ). get_or l 6 0) e)
byte-of bs word (suc (suc (suc (suc (suc (suc (suc zero))))))) e h = sym (ap (λ (l : List ℕ). get_or l 7 0) e) ∙ omega arith
byte-of bs word (suc (suc (suc (suc (suc (suc (suc (suc j)))))))) e h = absurd (omega arith)

-- a bit of a number of eight bytes is a bit of one of them
pub word-bit : (bs : List ℕ) (word i : ℕ) → word ≡ from_be_bytes w64 bs → length bs ≡ 8 → ((k : ℕ) → get_or bs k 0 < 256) → i < 64 → bit_at word (63 - i) ≡ bit_at (get_or bs (i / 8) 0) (7 - i % 8)
word-bit bs word i e sized small h =
    let place : 8 * (7 - i / 8) + (7 - i % 8) ≡ 63 - i = omega arith in
    sym (ap (λ b. bit_at b (7 - i % 8)) (byte-of bs word (i / 8) (be_bytes_8 bs word sized small e) (omega arith))
    ∙ byte-bit word (8 * (7 - i / 8)) (7 - i % 8) (omega arith)
    ∙ ap (bit_at word) place)

-- a word shifted so that n of its bits stay, from place s from the highest on
pub shifted-bit : (word s n i : ℕ) → s + n ≤ 64 → i < n → bit_at (word * 2 ^ s % 2 ^ 64 / 2 ^ (64 - n)) (n - 1 - i) ≡ bit_at word (63 - (s + i))
shifted-bit word s n i within h =
    let low : (64 - n) + (n - 1 - i) ≡ 63 - i = omega arith in
    let none : word * 2 ^ s + 0 ≡ word * 2 ^ s = omega arith in
    let high : 63 - i - s ≡ 63 - (s + i) = omega arith in
    ap (λ m. m % 2) (shr-shr (word * 2 ^ s % 2 ^ 64) (64 - n) (n - 1 - i))
    ∙ ap (bit_at (word * 2 ^ s % 2 ^ 64)) low
    ∙ sym (bit_at_cat_low (word * 2 ^ s / 2 ^ 64) 64 (word * 2 ^ s % 2 ^ 64) (63 - i) (omega arith))
    ∙ ap (λ m. bit_at m (63 - i)) (div-add-mod' (word * 2 ^ s) (2 ^ 64) ∙ sym none)
    ∙ bit_at_cat_high word s 0 (63 - i) (pow_pos s) (omega arith)
    ∙ ap (bit_at word) high

pub shifted-small : (word s n : ℕ) → n ≤ 64 → word * 2 ^ s % 2 ^ 64 / 2 ^ (64 - n) < 2 ^ n
shifted-small word s n h =
    let whole : 64 ≡ n + (64 - n) = omega arith in
    let below : word * 2 ^ s % 2 ^ 64 < 2 ^ 64 = omega arith in
    shr_below _ n (64 - n) (subst (λ k. word * 2 ^ s % 2 ^ 64 < 2 ^ k) whole below)
