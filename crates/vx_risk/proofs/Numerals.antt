-- Numbers by their digits, the least first: a product in place, and which of two is less.
use Rattle.std.proofs.Common.{◌≡◌, ◌⊎◌, inl, inr, ℕ, zero, suc, ◌+◌, ◌*◌, ◌^◌, ◌<◌, ◌≤◌, List, [], ◌∷◌, ◌++◌, length, take, drop, set, get_or, refl, ap, sym, ◌∙◌, arith, add-one}
use Rattle.std.specs.Prelude.{nat_lt, IsTrue, ◌↔◌}
use Rattle.std.proofs.Math.Nat.{mul-le-mul_left}
use Rattle.std.proofs.lemmas.Grind.{pow_more}
use Rattle.std.proofs.lemmas.List.{take_more_set, drop-set-lt, take_all, drop_all}
use Rattle.std.proofs.lemmas.Bool.{cases_order}
use Rattle.vx_base.proofs.Numbers.{below-yes, below-from_yes}
use Rattle.vx_risk.specs.Limbs.{number_in}

-- the number that digits spell with a number on top of them
abbrev pub number_above : ℕ → List ℕ → ℕ → ℕ
number_above base [] top = top
number_above base (digit ∷ more) top = digit + base * number_above base more top

number_above-push : (base : ℕ) (xs : List ℕ) (x top : ℕ) → number_above base (xs ++ x ∷ []) top ≡ number_above base xs (x + base * top)
number_above-push base [] x top = refl
number_above-push base (y ∷ xs) x top = ap (λ (n : ℕ). y + base * n) (number_above-push base xs x top)

number_in-push : (base : ℕ) (xs : List ℕ) (x : ℕ) → number_in base (xs ++ x ∷ []) ≡ number_above base xs x
number_in-push base [] x = omega arith
number_in-push base (y ∷ xs) x = ap (λ (n : ℕ). y + base * n) (number_in-push base xs x)

-- with nothing on top
pub number_in-above_none : (base : ℕ) (xs : List ℕ) → number_in base (xs ++ 0 ∷ []) ≡ number_in base xs
number_in-above_none base [] = omega arith
number_in-above_none base (y ∷ xs) = ap (λ (n : ℕ). y + base * n) (number_in-above_none base xs)

-- the digits from a place on, by the first of them; past the end a digit is 0
number_in-drop : (base : ℕ) (xs : List ℕ) (i : ℕ) → number_in base (drop i xs) ≡ get_or xs i 0 + base * number_in base (drop (suc i) xs)
number_in-drop base [] zero = omega arith
number_in-drop base [] (suc i) = omega arith
number_in-drop base (x ∷ xs) zero = refl
number_in-drop base (x ∷ xs) (suc i) = number_in-drop base xs i

one_digit : (base factor carry low high digit rest number : ℕ) → low + high * base ≡ digit * factor + carry → number ≡ digit + base * rest →
    low + base * (high + factor * rest) ≡ carry + factor * number
one_digit base factor carry low high digit rest number product is = rw is (omega (arith, product))

-- one digit more is multiplied: what is multiplied so far, and on top of it what is carried and the product of the rest
pub multiplied-more : (base factor carry low high : ℕ) (xs : List ℕ) (i : ℕ) → i < length xs → low + high * base ≡ get_or xs i 0 * factor + carry →
    number_above base (take (i + 1) (set xs i low)) (high + factor * number_in base (drop (i + 1) (set xs i low)))
    ≡ number_above base (take i xs) (carry + factor * number_in base (drop i xs))
multiplied-more base factor carry low high xs i within product =
    let left : drop (i + 1) (set xs i low) ≡ drop (suc i) xs = drop-set-lt (i + 1) xs i low (omega arith) ∙ ap (λ (n : ℕ). drop n xs) (add-one i) in
    let is = one_digit base factor carry low high (get_or xs i 0) (number_in base (drop (suc i) xs)) (number_in base (drop i xs)) product (number_in-drop base xs i) in
    ap (λ (ys : List ℕ). number_above base ys (high + factor * number_in base (drop (i + 1) (set xs i low)))) (take_more_set xs i low within)
    ∙ number_above-push base (take i xs) low (high + factor * number_in base (drop (i + 1) (set xs i low)))
    ∙ ap (λ (ys : List ℕ). number_above base (take i xs) (low + base * (high + factor * number_in base ys))) left
    ∙ ap (number_above base (take i xs)) is

-- all digits are multiplied
pub multiplied-all : (base factor carry : ℕ) (xs : List ℕ) (i number : ℕ) → length xs ≤ i →
    number_above base (take i xs) (carry + factor * number_in base (drop i xs)) ≡ number → number_in base (xs ++ carry ∷ []) ≡ number
multiplied-all base factor carry xs i number past is =
    number_in-push base xs carry
    ∙ ap (number_above base xs) (omega arith)
    ∙ sym (ap (λ (ys : List ℕ). number_above base xs (carry + factor * number_in base ys)) (drop_all i xs past))
    ∙ sym (ap (λ (ys : List ℕ). number_above base ys (carry + factor * number_in base (drop i xs))) (take_all i xs past))
    ∙ is

-- every digit is below the base
abbrev pub AreDigits : ℕ → List ℕ → Type 0
AreDigits base xs = (k : ℕ) → get_or xs k 0 < base

higher : (base x y u v : ℕ) → x < base → u < v → x + base * u < y + base * v
higher base x y u v small h =
    let next : u + 1 ≤ v = omega arith in
    omega (arith, mul-le-mul_left base next)

-- what is less at the digits from a place on is less
less-from : (base : ℕ) (xs ys : List ℕ) (i : ℕ) → AreDigits base xs → number_in base (drop i xs) < number_in base (drop i ys) → number_in base xs < number_in base ys
less-from base xs ys zero small h = h
less-from base xs ys (suc i) small h =
    less-from base xs ys i small
    (rw (number_in-drop base xs i, number_in-drop base ys i)
    (higher base (get_or xs i 0) (get_or ys i 0) (number_in base (drop (suc i) xs)) (number_in base (drop (suc i) ys)) (small i) h))

-- what is less at a digit, above which the digits are the same, is less
less-at : (base : ℕ) (xs ys : List ℕ) (i : ℕ) → AreDigits base xs → number_in base (drop (suc i) xs) ≡ number_in base (drop (suc i) ys) →
    get_or xs i 0 < get_or ys i 0 → number_in base xs < number_in base ys
less-at base xs ys i small same h =
    less-from base xs ys i small (rw (number_in-drop base xs i, number_in-drop base ys i, same) (omega arith))

-- the highest digits that differ decide
pub decided : (base : ℕ) (xs ys : List ℕ) (i x y : ℕ) → AreDigits base xs → AreDigits base ys →
    number_in base (drop (suc i) xs) ≡ number_in base (drop (suc i) ys) → x ≡ get_or xs i 0 → y ≡ get_or ys i 0 → (x ≡ y → ⊥) →
    IsTrue (nat_lt x y) ↔ (number_in base xs ≤ number_in base ys)
decided base xs ys i x y small small' same is is' differ = by (cases_order x y)
  where
    by : (x ≡ y) ⊎ ((x < y) ⊎ (y < x)) → IsTrue (nat_lt x y) ↔ (number_in base xs ≤ number_in base ys)
    by (inl equal) = absurd (differ equal)
    by (inr (inl less)) =
        let here : get_or xs i 0 < get_or ys i 0 = omega (arith, is, is') in
        let below = less-at base xs ys i small same here in
        ((λ _. omega (arith, below)), (λ _. below-yes x y less))
    by (inr (inr more)) =
        let here : get_or ys i 0 < get_or xs i 0 = omega (arith, is, is') in
        let below = less-at base ys xs i small' (sym same) here in
        ((λ h. absurd (omega (arith, below-from_yes x y h))), (λ h. absurd (omega (arith, below))))

-- one factor more
pub power-more : (factor count start old new : ℕ) → new ≡ factor * old → old ≡ factor ^ count * start → new ≡ factor ^ (count + 1) * start
power-more factor count start old new is was = rw (is, was, pow_more factor count) (omega arith)
