-- Texts that stand in a JSON string as they are.
use Rattle.std.proofs.Common.{◌≡◌, ℕ, ◌<◌, ◌^◌, ◌==◌, ◌||◌, true, List, [], ◌∷◌, ◌++◌, refl, sym, arith}
use Rattle.std.proofs.lemmas.Bool.{and_parts, or_parts, not-true, eqb-false, ltb-false}
use Rattle.std.proofs.lemmas.Fmt.{decimal_is_IsNumeral}
use Rattle.std.proofs.lemmas.List.Concat.{flat_map-append}
use Rattle.std.proofs.lemmas.Str.Parse.{tells_digits}
use Rattle.std.specs.Fmt.{decimal}
use Rattle.std.specs.List.{list_all}
use Rattle.std.specs.Str.Parse.{AllDigits}
use Rattle.json.specs.Print.{escape, escape_byte}
use Rattle.json.specs.Run.{is_plain, is_stop}
use Rattle.json.proofs.Printed.Strings.{escape_byte_plain}
use Rattle.vx_cvr.specs.Names.{hyphened}

pub plain : (xs : List ℕ) → list_all is_plain xs ≡ true → escape xs ≡ xs
plain [] is = refl
plain (x ∷ xs) is =
    let both = and_parts (is_plain x) (list_all is_plain xs) is in
    let none = or_parts (x == 34 || x == 92) _ (not-true (is_stop x) both.0) in
    let tests = or_parts (x == 34) _ none.0 in
    λ i. escape_byte_plain x (eqb-false x 34 tests.0) (eqb-false x 92 tests.1) (ltb-false x 32 none.1) i ++ plain xs both.1 i

digits : (xs : List ℕ) → AllDigits 10 xs → escape xs ≡ xs
digits [] are = refl
digits (x ∷ xs) are =
    let both = tells_digits.parts x xs are in
    λ i. escape_byte_plain x (λ is. omega (arith, both.0)) (λ is. omega (arith, both.0)) (omega (arith, both.0)) i ++ digits xs both.1 i

pub number : (n : ℕ) → n < 2 ^ 64 → escape (decimal n) ≡ decimal n
number n small = digits (decimal n) (decimal_is_IsNumeral n small).0.1

pub joined : (xs ys : List ℕ) → escape (xs ++ ys) ≡ escape xs ++ escape ys
joined xs ys = flat_map-append escape_byte xs ys

pub hyphened-text : (name number : List ℕ) → escape name ++ 45 ∷ escape number ≡ escape (hyphened name number)
unfolding escape_byte
hyphened-text name number = sym (joined name (45 ∷ number))
