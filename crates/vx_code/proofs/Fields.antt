-- Fields in a list of bits, and codes as fields.
use Rattle.std.proofs.Common.{◌≡◌, ℕ, ◌+◌, ◌-◌, ◌*◌, ◌/◌, ◌%◌, ◌^◌, ◌<◌, ◌==◌, ◌∙◌, sym, ap, List, [], ◌∷◌, ◌++◌, Bool, false, length, take, drop, slice_index_or, zero, suc, refl, arith, length-append, length-drop}
use Rattle.std.specs.Int.{bit_at, from_bool}
use Rattle.std.specs.List.{zip}
use Rattle.std.proofs.lemmas.List.{take-append-drop, length-take-le}
use Rattle.vx_base.proofs.Lists.{take-front, drop-front}
use Rattle.vx_grid.specs.declared.kind.Kind.{Kind}
use Rattle.vx_grid.specs.declared.kind.Kind.TheVariants.{Precinct, Absentee, Provisional, Other}
use Rattle.vx_code.specs.declared.code.PageCode.{PageCode}
use Rattle.vx_code.specs.Bits.{bits_of_number, number_of_bits, bits_of_fields, values_of_bits}
use Rattle.vx_code.specs.Code.{IsInRange, number_of_kind, kind_of_number, widths, values_of, code_of_values, bits_of, number_of, code_of_bits}
use Rattle.vx_code.proofs.Numbers.{length-bits_of_number, number_of_bits-append, number_of_bits-bits_of_number, bits_of_number-number_of_bits, get-bits_of_number, number_of_bits-lt, from_bool-back, from_bool-test, from_bool-le}

-- each value fits its width
pub Fit : List ℕ → List ℕ → Type 0
Fit [] [] = Unit {0}
Fit [] (value ∷ values) = ⊥
Fit (width ∷ ws) [] = ⊥
Fit (width ∷ ws) (value ∷ values) = (value < 2 ^ width) × Fit ws values

-- the bits of all widths
pub total : List ℕ → ℕ
total [] = 0
total (width ∷ ws) = width + total ws

bits_of_fields-first : (width value : ℕ) (ws values : List ℕ) → bits_of_fields (zip (width ∷ ws) (value ∷ values)) ≡ bits_of_number width value ++ bits_of_fields (zip ws values)
unfolding bits_of_fields
bits_of_fields-first width value ws values = refl

values_of_bits-first : (width : ℕ) (ws : List ℕ) (bits : List Bool) → values_of_bits (width ∷ ws) bits ≡ number_of_bits (take width bits) ∷ values_of_bits ws (drop width bits)
unfolding values_of_bits
values_of_bits-first width ws bits = refl

-- the values that are written are those that are read
pub values_of_bits-bits_of_fields : (ws values : List ℕ) → Fit ws values → values_of_bits ws (bits_of_fields (zip ws values)) ≡ values
unfolding Fit values_of_bits
values_of_bits-bits_of_fields [] [] fit = refl
values_of_bits-bits_of_fields [] (value ∷ values) fit = absurd fit
values_of_bits-bits_of_fields (width ∷ ws) [] fit = absurd fit
values_of_bits-bits_of_fields (width ∷ ws) (value ∷ values) fit =
    let rest = bits_of_fields (zip ws values) in
    let here = length-bits_of_number width value in
    rw (
      bits_of_fields-first width value ws values,
      take-front (bits_of_number width value) rest width here,
      drop-front (bits_of_number width value) rest width here,
      number_of_bits-bits_of_number width value fit.0,
      values_of_bits-bits_of_fields ws values fit.1,
    )
    refl

no_fields : bits_of_fields [] ≡ []
unfolding bits_of_fields
no_fields = refl

-- the bits that are read are those that are written again
pub bits_of_fields-values_of_bits : (ws : List ℕ) (bits : List Bool) → length bits ≡ total ws → bits_of_fields (zip ws (values_of_bits ws bits)) ≡ bits
unfolding total
bits_of_fields-values_of_bits [] [] e = no_fields
bits_of_fields-values_of_bits [] (bit ∷ bits) e = absurd (omega arith)
bits_of_fields-values_of_bits (width ∷ ws) bits e =
    let taken : length (take width bits) ≡ width = length-take-le width bits (omega arith) in
    let left : length (drop width bits) ≡ total ws = rw length-drop (omega arith) in
    let back : bits_of_number width (number_of_bits (take width bits)) ≡ take width bits
    = ap (λ n. bits_of_number n (number_of_bits (take width bits))) (sym taken) ∙ bits_of_number-number_of_bits (take width bits) in
    rw (values_of_bits-first width ws bits, bits_of_fields-first width (number_of_bits (take width bits)) ws (values_of_bits ws (drop width bits)), back, bits_of_fields-values_of_bits ws (drop width bits) left)
    (take-append-drop width bits)

-- what is read fits
pub Fit-values_of_bits : (ws : List ℕ) (bits : List Bool) → length bits ≡ total ws → Fit ws (values_of_bits ws bits)
unfolding values_of_bits Fit total
Fit-values_of_bits [] bits e = tt
Fit-values_of_bits (width ∷ ws) bits e =
    let taken : length (take width bits) ≡ width = length-take-le width bits (omega arith) in
    (rw taken at (number_of_bits-lt (take width bits)), Fit-values_of_bits ws (drop width bits) (rw length-drop (omega arith)))

-- all fields together have as many bits as their widths say
pub length-bits_of_fields : (ws values : List ℕ) → length ws ≡ length values → length (bits_of_fields (zip ws values)) ≡ total ws
unfolding total bits_of_fields
length-bits_of_fields [] values e = refl
length-bits_of_fields (width ∷ ws) [] e = absurd (omega arith)
length-bits_of_fields (width ∷ ws) (value ∷ values) e =
    let here = length-bits_of_number width value in
    let next = length-bits_of_fields ws values (omega arith) in
    rw length-append (omega arith)

-- the number of fields, each value at its place
value_of : List ℕ → List ℕ → ℕ
value_of [] values = 0
value_of (width ∷ ws) [] = 0
value_of (width ∷ ws) (value ∷ values) = value * 2 ^ total ws + value_of ws values

number_of_none : number_of_bits [] ≡ 0
unfolding number_of_bits
number_of_none = refl

length-Fit : (ws values : List ℕ) → Fit ws values → length ws ≡ length values
unfolding Fit
length-Fit [] [] fit = refl
length-Fit [] (value ∷ values) fit = absurd fit
length-Fit (width ∷ ws) [] fit = absurd fit
length-Fit (width ∷ ws) (value ∷ values) fit = ap suc (length-Fit ws values fit.1)

number_of_fields : (ws values : List ℕ) → Fit ws values → number_of_bits (bits_of_fields (zip ws values)) ≡ value_of ws values
unfolding Fit total bits_of_fields value_of
number_of_fields [] [] fit = number_of_none
number_of_fields [] (value ∷ values) fit = absurd fit
number_of_fields (width ∷ ws) [] fit = absurd fit
number_of_fields (width ∷ ws) (value ∷ values) fit =
    let rest = bits_of_fields (zip ws values) in
    let size : length rest ≡ total ws = length-bits_of_fields ws values (length-Fit ws values fit.1) in
    rw (number_of_bits-append (bits_of_number width value) rest, number_of_bits-bits_of_number width value fit.0, size, number_of_fields ws values fit.1)
    refl

number_of_kind-lt : (kind : Kind) → number_of_kind kind < 4
number_of_kind-lt Precinct = omega arith
number_of_kind-lt Absentee = omega arith
number_of_kind-lt Provisional = omega arith
number_of_kind-lt Other = omega arith

kind_back : (kind : Kind) → kind_of_number (number_of_kind kind) ≡ kind
kind_back Precinct = refl
kind_back Absentee = refl
kind_back Provisional = refl
kind_back Other = refl

kind_of_number-back : (n : ℕ) → n < 4 → number_of_kind (kind_of_number n) ≡ n
kind_of_number-back zero h = refl
kind_of_number-back (suc zero) h = refl
kind_of_number-back (suc (suc zero)) h = refl
kind_of_number-back (suc (suc (suc zero))) h = refl
kind_of_number-back (suc (suc (suc (suc n)))) h = absurd (omega arith)

-- the fields of a code in range fit
pub Fit-values_of : (code : PageCode) → IsInRange code → Fit widths (values_of code)
unfolding Fit
Fit-values_of code fits =
    (fits.version_fits, (let flag = from_bool-le code.test in omega arith, (number_of_kind-lt code.kind, (fits.card_fits, (fits.page_fits, (fits.tag_fits, tt))))))

-- a code is that of its values
pub code_of_values-values_of : (code : PageCode) → code_of_values (values_of code) ≡ code
code_of_values-values_of code = rw (from_bool-back code.test, kind_back code.kind) refl

-- what holds of six values that fit holds of each list that fits
by_six : (P : List ℕ → Type 0)
    → ((version test kind card page tag : ℕ) → version < 8 → test < 2 → kind < 4 → card < 1024 → page < 64 → tag < 2 ^ 20 → P (version ∷ test ∷ kind ∷ card ∷ page ∷ tag ∷ []))
    → (values : List ℕ) → Fit widths values → P values
unfolding Fit
by_six P six [] fit = absurd fit
by_six P six (a ∷ []) fit = absurd fit.1
by_six P six (a ∷ b ∷ []) fit = absurd fit.1.1
by_six P six (a ∷ b ∷ c ∷ []) fit = absurd fit.1.1.1
by_six P six (a ∷ b ∷ c ∷ d ∷ []) fit = absurd fit.1.1.1.1
by_six P six (a ∷ b ∷ c ∷ d ∷ e ∷ []) fit = absurd fit.1.1.1.1.1
by_six P six (a ∷ b ∷ c ∷ d ∷ e ∷ f ∷ []) fit =
    six a b c d e f fit.0 fit.1.0 fit.1.1.0 fit.1.1.1.0 fit.1.1.1.1.0 fit.1.1.1.1.1.0
by_six P six (a ∷ b ∷ c ∷ d ∷ e ∷ f ∷ g ∷ more) fit = absurd fit.1.1.1.1.1.1

-- values that fit are those of their code
pub values_of-code_of_values : (values : List ℕ) → Fit widths values → values_of (code_of_values values) ≡ values
values_of-code_of_values =
    by_six (λ values. values_of (code_of_values values) ≡ values)
    (λ version test kind card page tag version_fits test_fits kind_fits card_fits page_fits tag_fits.
    rw (from_bool-test test test_fits, kind_of_number-back kind kind_fits) refl)

IsInRange-code_of_values : (values : List ℕ) → Fit widths values → IsInRange (code_of_values values)
IsInRange-code_of_values =
    by_six (λ values. IsInRange (code_of_values values))
    (λ version test kind card page tag version_fits test_fits kind_fits card_fits page_fits tag_fits.
    record { version_fits = version_fits; card_fits = card_fits; page_fits = page_fits; tag_fits = tag_fits })

pub length-bits_of : (code : PageCode) → length (bits_of code) ≡ 42
unfolding bits_of total
length-bits_of code = length-bits_of_fields widths (values_of code) refl

-- a code is that of its bits
pub code_of_bits-bits_of : (code : PageCode) → IsInRange code → code_of_bits (bits_of code) ≡ code
unfolding bits_of code_of_bits
code_of_bits-bits_of code fits = ap code_of_values (values_of_bits-bits_of_fields widths (values_of code) (Fit-values_of code fits)) ∙ code_of_values-values_of code

-- 42 bits are those of their code
pub bits_of-code_of_bits : (bits : List Bool) → length bits ≡ 42 → bits_of (code_of_bits bits) ≡ bits
unfolding bits_of code_of_bits total
bits_of-code_of_bits bits e =
    ap (λ values. bits_of_fields (zip widths values)) (values_of-code_of_values (values_of_bits widths bits) (Fit-values_of_bits widths bits e))
    ∙ bits_of_fields-values_of_bits widths bits e

-- the code of 42 bits is in range
pub IsInRange-code_of_bits : (bits : List Bool) → length bits ≡ 42 → IsInRange (code_of_bits bits)
unfolding code_of_bits total
IsInRange-code_of_bits bits e = IsInRange-code_of_values (values_of_bits widths bits) (Fit-values_of_bits widths bits e)

horner : (version test kind card page tag : ℕ) →
    value_of widths (version ∷ test ∷ kind ∷ card ∷ page ∷ tag ∷ [])
    ≡ ((((version * 2 + test) * 4 + kind) * 1024 + card) * 64 + page) * 2 ^ 20 + tag
unfolding value_of total
horner version test kind card page tag = omega arith

-- the number of a code, field after field
pub number_of-fields : (code : PageCode) → IsInRange code →
    number_of code ≡ ((((code.version * 2 + from_bool code.test) * 4 + number_of_kind code.kind) * 1024 + code.card) * 64 + code.page) * 2 ^ 20 + code.tag
unfolding number_of bits_of
number_of-fields code fits = number_of_fields widths (values_of code) (Fit-values_of code fits)
    ∙ horner code.version (from_bool code.test) (number_of_kind code.kind) code.card code.page code.tag

-- the bits of a code are those of its number
pub bits_of-number_of : (code : PageCode) → bits_of_number 42 (number_of code) ≡ bits_of code
unfolding number_of
bits_of-number_of code = ap (λ n. bits_of_number n (number_of_bits (bits_of code))) (sym (length-bits_of code)) ∙ bits_of_number-number_of_bits (bits_of code)

-- the code of a number, field after field
unfoldable pub code_at : ℕ → PageCode
code_at n = record {
  version = n / 2 ^ 20 / 64 / 1024 / 4 / 2;
  test = n / 2 ^ 20 / 64 / 1024 / 4 % 2 == 1;
  kind = kind_of_number (n / 2 ^ 20 / 64 / 1024 % 4);
  card = n / 2 ^ 20 / 64 % 1024;
  page = n / 2 ^ 20 % 64;
  tag = n % 2 ^ 20;
}

IsInRange-code_at : (n : ℕ) → n < 2 ^ 42 → IsInRange (code_at n)
unfolding code_at
IsInRange-code_at n h = record { version_fits = omega arith; card_fits = omega arith; page_fits = omega arith; tag_fits = omega arith }

number_of-code_at : (n : ℕ) → n < 2 ^ 42 → number_of (code_at n) ≡ n
unfolding code_at
number_of-code_at n h =
    number_of-fields (code_at n) (IsInRange-code_at n h)
    ∙ rw (from_bool-test (n / 2 ^ 20 / 64 / 1024 / 4 % 2) (omega arith), kind_of_number-back (n / 2 ^ 20 / 64 / 1024 % 4) (omega arith)) (omega arith)

pub code_of_bits-of_number : (n : ℕ) → n < 2 ^ 42 → code_of_bits (bits_of_number 42 n) ≡ code_at n
code_of_bits-of_number n h =
    ap (λ m. code_of_bits (bits_of_number 42 m)) (sym (number_of-code_at n h))
    ∙ ap code_of_bits (bits_of-number_of (code_at n))
    ∙ code_of_bits-bits_of (code_at n) (IsInRange-code_at n h)

-- two codes in range with the same bits are one
pub same_codes : (a b : PageCode) → IsInRange a → IsInRange b → bits_of a ≡ bits_of b → a ≡ b
same_codes a b fits_a fits_b e = sym (code_of_bits-bits_of a fits_a) ∙ ap code_of_bits e ∙ code_of_bits-bits_of b fits_b

-- one bit of a code is one of its number
pub bit_of_code : (code : PageCode) (number n : ℕ) → number ≡ number_of code → n < 42 → (bit_at number (41 - n) == 1) ≡ slice_index_or (bits_of code) n false
bit_of_code code number n e h =
    ap (λ m. bit_at m (41 - n) == 1) e
    ∙ sym (get-bits_of_number 42 (number_of code) n h)
    ∙ ap (λ bits. slice_index_or bits n false) (bits_of-number_of code)
