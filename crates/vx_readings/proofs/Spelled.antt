-- Numbers that words spell.
use Rattle.std.proofs.Common.{◌≡◌, ◌<◌, ◌≤◌, ◌≢◌, ◌^◌, ℕ, zero, suc, Bool, true, false, List, [], ◌∷◌, length, drop, get_or, cond, arith, refl, sym, ap, ◌∙◌}
use Rattle.std.specs.Prelude.{Option, Some, None}
use Rattle.std.specs.Fmt.{decimal}
use Rattle.std.specs.Str.{bytes_eq}
use Rattle.std.proofs.lemmas.Fmt.{decimal_injective}
use Rattle.std.proofs.lemmas.Slice.Eq.{bytes_eq-Decides}
use Rattle.vx_base.proofs.Numbers.{equal-yes, equal-no}
use Rattle.vx_base.proofs.Booleans.{is-false}
use Rattle.vx_readings.specs.Numbers.{number_below, number_in, negative_of, positive_of, signed_in}

found-step : (most n : ℕ) (word : List ℕ) (rest : Option ℕ) (b : Bool) → most < 2 ^ 32 → n < suc most → word ≡ decimal n
    → b ≡ bytes_eq (decimal most) word → (n < most → rest ≡ Some n) → cond b (Some most) rest ≡ Some n
found-step most n word rest true few less is here before =
    let spells : decimal most ≡ decimal n = (bytes_eq-Decides (decimal most) word).0 (sym here) ∙ is in
    ap Some (decimal_injective most n (omega arith) (omega arith) spells)
found-step most n word rest false few less is here before =
    let other : n ≡ most → ⊥ = λ same. let true_too : bytes_eq (decimal most) word ≡ true = (bytes_eq-Decides (decimal most) word).1 (ap decimal (sym same) ∙ sym is) in cc in
    before (omega (arith, other))

-- the number that a word spells is found
pub number_below-found : (most n : ℕ) (word : List ℕ) → n < most → most ≤ 2 ^ 32 → word ≡ decimal n → number_below most word ≡ Some n
unfolding number_below
number_below-found zero n word less few is = absurd (omega arith)
number_below-found (suc most) n word less few is =
    found-step most n word (number_below most word) (bytes_eq (decimal most) word) (omega arith) less is refl
    (λ before. number_below-found most n word before (omega arith) is)

-- a word that spells none spells none below a bound
pub number_below-none : (most : ℕ) (word : List ℕ) → ((n : ℕ) → n < most → word ≢ decimal n) → number_below most word ≡ None
unfolding number_below
number_below-none zero word never = refl
number_below-none (suc most) word never =
    let here : bytes_eq (decimal most) word ≡ false =
    is-false (bytes_eq (decimal most) word) (λ is. never most (omega arith) (sym ((bytes_eq-Decides (decimal most) word).0 is))) in
    rw here (number_below-none most word (λ n less is. never n (omega arith) is))

-- the number of 32 bits that a word spells
pub number_in-decimal : (n : ℕ) → n < 2 ^ 32 → number_in (decimal n) ≡ Some n
unfolding number_in
number_in-decimal n small = number_below-found (2 ^ 32) n (decimal n) small (omega arith) refl

pub number_in-none : (word : List ℕ) → ((n : ℕ) → n < 2 ^ 32 → word ≢ decimal n) → number_in word ≡ None
unfolding number_in
number_in-none word never = number_below-none (2 ^ 32) word never

-- a number with a sign
pub signed_in-empty : (word : List ℕ) → length word ≡ 0 → signed_in word ≡ None
unfolding signed_in
signed_in-empty [] none = refl
signed_in-empty (byte ∷ digits) none = absurd (omega arith)

pub signed_in-minus : (word : List ℕ) → 0 < length word → get_or word 0 0 ≡ 45 → signed_in word ≡ negative_of (number_in (drop 1 word))
unfolding signed_in
signed_in-minus [] some is = absurd (omega arith)
signed_in-minus (byte ∷ digits) some is = rw (equal-yes byte 45 is) refl

pub signed_in-plain : (word : List ℕ) → 0 < length word → (get_or word 0 0 ≡ 45 → ⊥) → signed_in word ≡ positive_of (number_in word)
unfolding signed_in
signed_in-plain [] some other = absurd (omega arith)
signed_in-plain (byte ∷ digits) some other = rw (equal-no byte 45 other) refl
