-- Numbers that digits write, beside the one spelling of each.
use Rattle.std.proofs.Common.{◌≡◌, ◌<◌, ◌≤◌, ◌+◌, ◌*◌, ◌^◌, ℕ, List, [], ◌∷◌, ◌++◌, length, take, get_or, arith, sym, subst, ap, ◌∙◌}
use Rattle.std.specs.Prelude.{Some, None}
use Rattle.std.specs.Char.{digit_value}
use Rattle.std.specs.Fmt.{decimal}
use Rattle.std.specs.Int.{IsInRange}
use Rattle.std.specs.Str.Parse.{AllDigits, digits_value}
use Rattle.std.proofs.lemmas.Fmt.{length-decimal-le, decimal-digits_value, digits_decimal, digits_value-decimal}
use Rattle.std.proofs.lemmas.Int.Digits.{digits_more, digits_value_push}
use Rattle.std.proofs.lemmas.List.{length-take-le, take_more}
use Rattle.std.proofs.lemmas.Str.{digit_value_digit}
use Rattle.std.proofs.lemmas.Str.Parse.{IsNumeralModel, numerals_by_value, tells_digits, digits_value_short}
use Rattle.vx_base.proofs.Numerals.{decimal_starts}
use Rattle.vx_readings.specs.Numbers.{number_in}
use Rattle.vx_readings.proofs.Spelled.{number_in-decimal, number_in-none}

own : IsNumeralModel (AllDigits 10) (digits_value 10)
own = numerals_by_value (AllDigits 10) tells_digits

-- a size that is neither none nor more is one
pub one_alone : (size : ℕ) → 0 < size → (1 < size → ⊥) → size ≡ 1
one_alone size some no_more = omega (arith, some, no_more)

-- digits before a place of a word of at most ten write less than this
pub digits_below : (word : List ℕ) (place : ℕ) → length word ≤ 10 → place < length word → AllDigits 10 (take place word)
    → digits_value 10 (take place word) < 10 ^ 9
digits_below word place few small all =
    let size : length (take place word) ≡ place = length-take-le place word (omega arith) in
    digits_value_short own (take place word) 9 all (omega (arith, size))

-- one digit more
pub one_more_digit : (word : List ℕ) (place digit : ℕ) → place < length word → AllDigits 10 (take place word)
    → digit + 48 ≡ get_or word place 0 → digit ≤ 9
    → AllDigits 10 (take (place + 1) word) × (10 * digits_value 10 (take place word) + digit ≡ digits_value 10 (take (place + 1) word))
one_more_digit word place digit small all is few =
    let byte : ℕ = get_or word place 0 in
    let range : IsInRange 48 57 byte = (omega (arith, is), omega (arith, is)) in
    let value : digit_value byte + 48 ≡ byte = digit_value_digit byte range in
    let more : take (place + 1) word ≡ take place word ++ byte ∷ [] = take_more word place 0 small in
    let pushed : digits_value 10 (take (place + 1) word) ≡ digits_value 10 (take place word) * 10 + digit_value byte =
    ap (digits_value 10) more ∙ digits_value_push 10 (take place word) byte in
    (digits_more 10 word place small all (omega (arith, value, is)), omega (arith, value, is, pushed))

-- digits without a leading zero spell what they write
pub digits-spell : (word : List ℕ) → AllDigits 10 word → 0 < length word → (get_or word 0 0 ≡ 48 → length word ≡ 1)
    → digits_value 10 word < 2 ^ 32 → number_in word ≡ Some (digits_value 10 word)
digits-spell word all some no_zero small =
    let is : decimal (digits_value 10 word) ≡ word = decimal-digits_value own word all some no_zero (omega (arith, small)) in
    ap number_in (sym is) ∙ number_in-decimal (digits_value 10 word) small

-- what else is there spells none
pub none-not_digits : (word : List ℕ) → ¬ AllDigits 10 word → number_in word ≡ None
none-not_digits word never =
    number_in-none word (λ n small is. never (subst (AllDigits 10) (sym is) (digits_decimal own n (omega (arith, small)))))

pub none-too_great : (word : List ℕ) → 2 ^ 32 ≤ digits_value 10 word → number_in word ≡ None
none-too_great word great =
    number_in-none word (λ n small is.
    let value : digits_value 10 word ≡ n = ap (digits_value 10) is ∙ digits_value-decimal own n (omega (arith, small)) in
    omega (arith, small, great, value))

pub none-leading_zero : (word : List ℕ) → get_or word 0 0 ≡ 48 → 1 < length word → number_in word ≡ None
none-leading_zero word zero more =
    number_in-none word (λ n small is.
    let alone : length (decimal n) ≡ 1 = (decimal_starts n small).no_zero (ap (λ (w : List ℕ). get_or w 0 0) (sym is) ∙ zero) in
    omega (arith, alone, ap length is, more))

pub none-empty : (word : List ℕ) → length word ≡ 0 → number_in word ≡ None
none-empty word empty =
    number_in-none word (λ n small is.
    let some : 0 < length (decimal n) = (decimal_starts n small).some in
    omega (arith, some, ap length is, empty))

pub none-long : (word : List ℕ) → 10 < length word → number_in word ≡ None
none-long word long =
    number_in-none word (λ n small is.
    let few : length (decimal n) ≤ 10 = length-decimal-le 10 n (omega arith) (omega (arith, small)) (omega arith) in
    omega (arith, few, ap length is, long))
