-- A moment and a device that words name are UTF-8.
use Rattle.std.proofs.Common.{◌≡◌, ℕ, ◌+◌, ◌<◌, Bool, true, false, cond, ◌&&◌, ◌==◌, List, length, take, slice_index, refl, sym, subst, arith, inl, inr, IsUtf8}
use Rattle.std.specs.Prelude.{Option, Some, None, option_map}
use Rattle.std.specs.Str.{IsAscii}
use Rattle.std.proofs.lemmas.Bool.{cases_eq, cases_lt, eqb-true, and_parts}
use Rattle.std.proofs.lemmas.Bool.Decides.{nat_tests}
use Rattle.std.proofs.lemmas.List.{get_or-take, get_or_past}
use Rattle.std.proofs.lemmas.Str.{IsUtf8-from_ascii}
use Rattle.uuid.specs.Text.{hyphenated_text, is_hyphen_place, hyphen, hex_digit, lower, nibble, digit_place, parsed}
use Rattle.uuid.proofs.TextLemmas.{by_index_ascii, hex_digit_ascii, nibble_small}
use Rattle.vx_json.specs.Reading.{is_within}
use Rattle.vx_election_model.specs.Dates.{are_digits, has_date_form, is_date, number_at}
use Rattle.vx_words.specs.Devices.{device_of}
use Rattle.vx_words.specs.Moments.{has_clock_form, is_clock_time, is_moment}

-- ---- devices

place-ascii : (b : Bool) (d : ℕ) → d < 16 → cond b hyphen (hex_digit lower d) < 128
place-ascii true d small = omega arith
place-ascii false d small = hex_digit_ascii lower d (inl refl) small

hyphenated-utf8 : (id : List ℕ) → IsUtf8 (hyphenated_text lower id)
hyphenated-utf8 id = IsUtf8-from_ascii (hyphenated_text lower id) (by_index_ascii 36 _ (λ k below. place-ascii (is_hyphen_place k) (nibble id (digit_place k)) (nibble_small id (digit_place k))))

pub device-utf8 : (word device : List ℕ) → device_of word ≡ Some device → IsUtf8 device
device-utf8 word device named = by (parsed word) named
  where
    by : (o : Option (List ℕ)) → option_map (hyphenated_text lower) o ≡ Some device → IsUtf8 device
    by None is = absurd cc
    by (Some id) is = (let same : hyphenated_text lower id ≡ device = cc in subst IsUtf8 same (hyphenated-utf8 id))

-- ---- moments

-- what holds at each place below one, and there, holds below the next
below-next : (t : List ℕ) (n : ℕ) → slice_index t n < 128 → ((i : ℕ) → i < n → slice_index t i < 128) → (i : ℕ) → i < n + 1 → slice_index t i < 128
below-next t n at before i low = elim (cases_eq i n) [
  | inl same ↦ subst (λ (k : ℕ). slice_index t k < 128) (sym same) at
  | inr other ↦ before i (omega (arith, low, other))
]

small-digit : (n : ℕ) → is_within 48 57 n ≡ true → n < 128
small-digit n is = grind (arith, nat_tests)

small-sign : (n sign : ℕ) → (n == sign) ≡ true → sign < 128 → n < 128
small-sign n sign same small = omega (arith, eqb-true n sign same, small)

-- two digits more
two-digits : (t : List ℕ) (n : ℕ) → are_digits t n ≡ true → ((i : ℕ) → i < n → slice_index t i < 128) → (i : ℕ) → i < n + 2 → slice_index t i < 128
two-digits t n are before i low =
    let p = and_parts (is_within 48 57 (slice_index t n)) (is_within 48 57 (slice_index t (n + 1))) are in
    below-next t (n + 1) (small-digit _ p.1) (below-next t n (small-digit _ p.0) before) i (omega (arith, low))

-- a sign more
one-sign : (t : List ℕ) (n sign : ℕ) → (slice_index t n == sign) ≡ true → sign < 128 → ((i : ℕ) → i < n → slice_index t i < 128) → (i : ℕ) → i < n + 1 → slice_index t i < 128
one-sign t n sign is small before = below-next t n (small-sign (slice_index t n) sign is small) before

date-low : (t : List ℕ) → has_date_form t ≡ true → (i : ℕ) → i < 10 → slice_index t i < 128
date-low t form =
    let a = and_parts ((length t == 10) && are_digits t 0 && are_digits t 2 && (slice_index t 4 == 45) && are_digits t 5 && (slice_index t 7 == 45)) (are_digits t 8) form in
    let b = and_parts ((length t == 10) && are_digits t 0 && are_digits t 2 && (slice_index t 4 == 45) && are_digits t 5) (slice_index t 7 == 45) a.0 in
    let c = and_parts ((length t == 10) && are_digits t 0 && are_digits t 2 && (slice_index t 4 == 45)) (are_digits t 5) b.0 in
    let d = and_parts ((length t == 10) && are_digits t 0 && are_digits t 2) (slice_index t 4 == 45) c.0 in
    let e = and_parts ((length t == 10) && are_digits t 0) (are_digits t 2) d.0 in
    let f = and_parts (length t == 10) (are_digits t 0) e.0 in
    two-digits t 8 a.1 (one-sign t 7 45 b.1 (omega arith) (two-digits t 5 c.1 (one-sign t 4 45 d.1 (omega arith)
    (two-digits t 2 e.1 (two-digits t 0 f.1 (λ i low. absurd (omega (arith, low))))))))

clock-low : (t : List ℕ) → has_clock_form t ≡ true → ((i : ℕ) → i < 10 → slice_index t i < 128) → IsAscii t
clock-low t form before i =
    let a = and_parts ((length t == 20) && (slice_index t 10 == 84) && are_digits t 11 && (slice_index t 13 == 58) && are_digits t 14 && (slice_index t 16 == 58) && are_digits t 17) (slice_index t 19 == 90) form in
    let b = and_parts ((length t == 20) && (slice_index t 10 == 84) && are_digits t 11 && (slice_index t 13 == 58) && are_digits t 14 && (slice_index t 16 == 58)) (are_digits t 17) a.0 in
    let c = and_parts ((length t == 20) && (slice_index t 10 == 84) && are_digits t 11 && (slice_index t 13 == 58) && are_digits t 14) (slice_index t 16 == 58) b.0 in
    let d = and_parts ((length t == 20) && (slice_index t 10 == 84) && are_digits t 11 && (slice_index t 13 == 58)) (are_digits t 14) c.0 in
    let e = and_parts ((length t == 20) && (slice_index t 10 == 84) && are_digits t 11) (slice_index t 13 == 58) d.0 in
    let f = and_parts ((length t == 20) && (slice_index t 10 == 84)) (are_digits t 11) e.0 in
    let g = and_parts (length t == 20) (slice_index t 10 == 84) f.0 in
    let all : (k : ℕ) → k < 20 → slice_index t k < 128 =
    one-sign t 19 90 a.1 (omega arith) (two-digits t 17 b.1 (one-sign t 16 58 c.1 (omega arith) (two-digits t 14 d.1
    (one-sign t 13 58 e.1 (omega arith) (two-digits t 11 f.1 (one-sign t 10 84 g.1 (omega arith) before)))))) in
    let long : length t ≡ 20 = eqb-true (length t) 20 g.0 in
    elim (cases_lt i 20) [
      | inl low ↦ all i low
      | inr past ↦ subst (λ (k : ℕ). k < 128) (sym (get_or_past t i 0 (omega (arith, long, past)))) (omega arith)
    ]

pub moment-utf8 : (moment : List ℕ) → is_moment moment ≡ true → IsUtf8 moment
unfolding is_moment is_date
moment-utf8 moment is =
    let a = and_parts (has_clock_form moment && is_date (take 10 moment)) (is_clock_time (number_at moment 11) (number_at moment 14) (number_at moment 17)) is in
    let b = and_parts (has_clock_form moment) (is_date (take 10 moment)) a.0 in
    let form = and_parts (has_date_form (take 10 moment)) _ b.1 in
    IsUtf8-from_ascii moment (clock-low moment b.0 (λ i low.
    subst (λ (k : ℕ). k < 128) (get_or-take 10 moment i 0 low) (date-low (take 10 moment) form.0 i low)))
