-- What `parse` reads of a seed, for texts in their one spelling.
use Rattle.std.proofs.Common.{◌≡◌, ◌^◌, ◌<◌, ℕ, zero, suc, List, length, get_or, Result, Ok, arith, sym, subst, rules, ap, ◌∙◌, lit<}
use Rattle.std.specs.Fmt.{decimal}
use Rattle.std.specs.Str.Parse.{AllDigits, digits_value, ParsesUnsigned}
use Rattle.std.proofs.lemmas.Str.Parse.{IsNumeralModel, numerals_by_value, tells_digits, parse_plain, digit_at}
use Rattle.std.proofs.lemmas.Fmt.{decimal_nonempty, first_decimal, decimal-digits_value, digits_decimal, decimal_digit}
use Rattle.vx_base.specs.Numeral.{StartsNumeral}

-- std's own words for digits and their value
own : IsNumeralModel (AllDigits 10) (digits_value 10)
own = numerals_by_value (AllDigits 10) tells_digits

zero_is_alone : (n : ℕ) → n < 2 ^ 64 → get_or (decimal n) 0 0 ≡ 48 → length (decimal n) ≡ 1
zero_is_alone zero fits is_zero = ap length (decimal_digit 0 (lit< tt))
zero_is_alone (suc n) fits is_zero = absurd (omega (arith, is_zero, first_decimal (suc n) (omega arith) fits))

-- every number's spelling starts as a number does
pub decimal_starts : (n : ℕ) → n < 2 ^ 64 → StartsNumeral (decimal n)
decimal_starts n fits =
    let some : 0 < length (decimal n) = decimal_nonempty n fits in
    let range = digit_at (decimal n) 0 (digits_decimal own n fits) some in
    record {
      some = some;
      low = search (rules, range);
      high = search (rules, range);
      no_zero = zero_is_alone n fits;
    }

-- where the text starts so, what is read from it is spelled by it
pub parsed_spells : {E : Type 0} (text : List ℕ) (v : ℕ) (r : Result ℕ E) → StartsNumeral text → r ≡ Ok v → ParsesUnsigned 64 10 text r → text ≡ decimal v
parsed_spells {E} text v r starts is read =
    let P : Result ℕ E → Type 0 = λ x. ParsesUnsigned 64 10 text x in
    let at_v : ParsesUnsigned {E = E} 64 10 text (Ok v) = subst P is read in
    let h = parse_plain own {E = E} 64 text (Ok v) at_v (omega (arith, starts.low)) in
    let small : digits_value 10 text < 2 ^ 64 = omega (arith, h.0.2) in
    sym (decimal-digits_value own text h.0.0 starts.some starts.no_zero small) ∙ ap decimal (sym h.1)
