-- Digits: which numbers' spellings begin with those of another.
use Rattle.std.proofs.Common.{◌≡◌, ℕ, zero, suc, ◌+◌, ◌-◌, ◌*◌, ◌/◌, ◌%◌, ◌^◌, ◌≤◌, ◌<◌, Bool, true, false, cond, List, [], ◌∷◌, ◌++◌, length, get_or, refl, ap, sym, subst, ◌∙◌, inl, inr, arith, length-append, append-nil, append_assoc}
use Rattle.std.proofs.lemmas.Fmt.{decimal_digit, decimal_step, decimal_injective, decimal_nonempty, digits_decimal}
use Rattle.std.proofs.lemmas.Bool.{cases_lt}
use Rattle.std.specs.Fmt.{decimal}
use Rattle.std.specs.Str.Parse.{AllDigits, digits_value}
use Rattle.std.proofs.lemmas.Str.Parse.{IsNumeralModel, numerals_by_value, tells_digits, digit_at}
use Rattle.vx_base.specs.Numeral.{StartsNumeral}
use Rattle.vx_base.proofs.Numerals.{decimal_starts}

-- `more` digits behind those of n give the numbers from `lowest` to `highest`
abbrev pub lowest : ℕ → ℕ → ℕ
lowest zero n = n
lowest (suc more) n = 10 * lowest more n

abbrev pub highest : ℕ → ℕ → ℕ
highest zero n = n
highest (suc more) n = 10 * highest more n + 9

-- m's digits are those of n and others
pub record Extends (n m : ℕ) : Type 0 where
  pub more : List ℕ
  pub text : decimal m ≡ decimal n ++ more

-- between the lowest and the highest with so many digits more
pub record Reaches (limit n m : ℕ) : Type 0 where
  pub more : ℕ
  pub few : more < limit
  pub low : lowest more n ≤ m
  pub high : m ≤ highest more n

pub lowest-highest : (more n : ℕ) → lowest more n ≤ highest more n
lowest-highest zero n = omega arith
lowest-highest (suc more) n = let h = lowest-highest more n in omega (arith, h)

pub lowest-pos : (more n : ℕ) → 0 < n → 0 < lowest more n
lowest-pos zero n h = h
lowest-pos (suc more) n h = let k = lowest-pos more n h in omega (arith, k)

pub lowest_at : (i j n : ℕ) → i ≡ j → lowest i n ≡ lowest j n
lowest_at i j n e = ap (λ (k : ℕ). lowest k n) e

pub highest_at : (i j n : ℕ) → i ≡ j → highest i n ≡ highest j n
highest_at i j n e = ap (λ (k : ℕ). highest k n) e

pub lowest-grows : (i d n : ℕ) → lowest i n ≤ lowest (d + i) n
lowest-grows i zero n =
    let e : lowest (zero + i) n ≡ lowest i n = lowest_at (zero + i) i n (omega arith) in
    omega (arith, e)
lowest-grows i (suc d) n =
    let h = lowest-grows i d n in
    let e : lowest (suc d + i) n ≡ 10 * lowest (d + i) n = lowest_at (suc d + i) (suc (d + i)) n (omega arith) in
    omega (arith, h, e)

-- a number of this range begins with the digits of n
pub extends_from : (more n m : ℕ) → 0 < n → m < 2 ^ 64 → lowest more n ≤ m → m ≤ highest more n → Extends n m
extends_from zero n m pos small low high =
    let same : m ≡ n = omega arith in
    record { more = []; text = ap decimal same ∙ sym (append-nil (decimal n)) }
extends_from (suc more) n m pos small low high =
    let k = lowest-pos more n pos in
    let big : 10 ≤ m = omega (arith, k) in
    let h = extends_from more n (m / 10) pos (omega arith) (omega (arith, low)) (omega (arith, high)) in
    record {
      more = h.more ++ ((48 + m % 10) ∷ []);
      text = decimal_step m big small ∙ ap (λ (t : List ℕ). t ++ ((48 + m % 10) ∷ [])) h.text ∙ append_assoc (decimal n) h.more ((48 + m % 10) ∷ []);
    }

-- a text that isn't empty has a last byte
record Snoc (xs : List ℕ) : Type 0 where
  front : List ℕ
  last : ℕ
  text : xs ≡ front ++ last ∷ []

snoc : (x : ℕ) (xs : List ℕ) → Snoc (x ∷ xs)
snoc x [] = record { front = []; last = x; text = refl }
snoc x (y ∷ xs) =
    let h = snoc y xs in
    record { front = x ∷ h.front; last = h.last; text = ap (λ (t : List ℕ). x ∷ t) h.text }

snoc_front : (xs ys : List ℕ) (x y : ℕ) → xs ++ x ∷ [] ≡ ys ++ y ∷ [] → xs ≡ ys
snoc_front [] [] x y e = refl
snoc_front [] (b ∷ []) x y e = absurd cc
snoc_front [] (b ∷ c ∷ ys) x y e = absurd cc
snoc_front (a ∷ []) [] x y e = absurd cc
snoc_front (a ∷ b ∷ xs) [] x y e = absurd cc
snoc_front (a ∷ xs) (b ∷ ys) x y e =
    let h = snoc_front xs ys x y (cc) in
    let k : a ≡ b = cc in
    cc

reaches_same : (limit n m : ℕ) → 0 < limit → m ≡ n → Reaches limit n m
reaches_same limit n m h e = record { more = 0; few = h; low = omega arith; high = omega arith }

reaches_more : (limit n m : ℕ) → Reaches limit n (m / 10) → Reaches (suc limit) n m
reaches_more limit n m h = record {
  more = suc h.more;
  few = omega (arith, h.few);
  low = omega (arith, h.low);
  high = omega (arith, h.high);
}

one_digit : (n m : ℕ) (more : List ℕ) → n < 2 ^ 64 → m < 10 → decimal m ≡ decimal n ++ more → m ≡ n
one_digit n m [] small h e = decimal_injective m n (omega arith) small (e ∙ append-nil (decimal n))
one_digit n m (b ∷ more) small h e =
    absurd (omega (arith, ap (length {A = ℕ}) e, ap (length {A = ℕ}) (decimal_digit m h), length-append (decimal n) (b ∷ more), decimal_nonempty n small))

-- powers of ten
unfoldable pub tens : ℕ → ℕ
tens zero = 1
tens (suc k) = 10 * tens k

reaches_step : (limit n m : ℕ) (more : List ℕ) → n < 2 ^ 64 → m < 2 ^ 64 → 10 ≤ m → decimal m ≡ decimal n ++ more → ((rest : List ℕ) → decimal (m / 10) ≡ decimal n ++ rest → Reaches (suc limit) n (m / 10)) → Reaches (suc (suc limit)) n m
reaches_step limit n m [] small fits big e next = reaches_same (suc (suc limit)) n m (omega arith) (decimal_injective m n fits small (e ∙ append-nil (decimal n)))
reaches_step limit n m (b ∷ more) small fits big e next =
    let h = snoc b more in
    let parted : decimal (m / 10) ++ ((48 + m % 10) ∷ []) ≡ (decimal n ++ h.front) ++ (h.last ∷ []) =
    sym (decimal_step m big fits) ∙ e ∙ ap (λ (t : List ℕ). decimal n ++ t) h.text ∙ sym (append_assoc (decimal n) h.front (h.last ∷ [])) in
    reaches_more (suc limit) n m (next h.front (snoc_front (decimal (m / 10)) (decimal n ++ h.front) (48 + m % 10) h.last parted))

-- a number that begins with the digits of n lies in such a range
pub reaches_from : (limit n m : ℕ) (more : List ℕ) → n < 2 ^ 64 → m < tens (suc limit) → m < 2 ^ 64 → decimal m ≡ decimal n ++ more → Reaches (suc limit) n m
unfolding tens
reaches_from zero n m more small few fits e = reaches_same 1 n m (omega arith) (one_digit n m more small (omega arith) e)
reaches_from (suc limit) n m more small few fits e = elim (cases_lt m 10) [
  | inl h ↦ reaches_same (suc (suc limit)) n m (omega arith) (one_digit n m more small h e)
  | inr h ↦ reaches_step limit n m more small fits h e (λ rest k. reaches_from limit n (m / 10) rest small (omega (arith, few)) (omega arith) k)
]

-- std's own words for digits and their value
own : IsNumeralModel (AllDigits 10) (digits_value 10)
own = numerals_by_value (AllDigits 10) tells_digits

-- the digits behind those of n are digits, n isn't 0, and one digit more is the next number's spelling
pub record NextDigit (n b : ℕ) : Type 0 where
  pub low : 48 ≤ b
  pub high : b ≤ 57
  pub pos : 0 < n
  pub text : decimal n ++ b ∷ [] ≡ decimal (10 * n + (b - 48))

seam : (xs : List ℕ) (b : ℕ) (ys : List ℕ) → get_or (xs ++ b ∷ ys) (length xs) 0 ≡ b
seam [] b ys = refl
seam (x ∷ xs) b ys = seam xs b ys

-- only 0 begins with 0
pub zero_alone : (m : ℕ) (more : List ℕ) → m < 2 ^ 32 → decimal m ≡ decimal 0 ++ more → more ≡ []
zero_alone m [] small e = refl
zero_alone m (b ∷ more) small e =
    let zero_text : decimal 0 ≡ 48 ∷ [] = decimal_digit 0 (omega arith) in
    let text : decimal m ≡ 48 ∷ b ∷ more = e ∙ ap (λ (t : List ℕ). t ++ b ∷ more) zero_text in
    let one : length (decimal m) ≡ 1 = (decimal_starts m small).no_zero (ap (λ (t : List ℕ). get_or t 0 0) text) in
    absurd (omega (arith, one, ap (length {A = ℕ}) text))

pub next_text : (n b : ℕ) → 48 ≤ b → b ≤ 57 → 0 < n → n < 2 ^ 32 → decimal n ++ b ∷ [] ≡ decimal (10 * n + (b - 48))
next_text n b low high pos small =
    let step = decimal_step (10 * n + (b - 48)) (omega arith) (omega arith) in
    let front : (10 * n + (b - 48)) / 10 ≡ n = omega arith in
    let last : 48 + (10 * n + (b - 48)) % 10 ≡ b = omega arith in
    sym (step ∙ ap (λ (k : ℕ). decimal k ++ ((48 + (10 * n + (b - 48)) % 10) ∷ [])) front ∙ ap (λ (k : ℕ). decimal n ++ k ∷ []) last)

pub next_digit : (n m b : ℕ) (more : List ℕ) → n < 2 ^ 32 → m < 2 ^ 32 → decimal m ≡ decimal n ++ b ∷ more → NextDigit n b
next_digit zero m b more small fits e = absurd (cc (zero_alone m (b ∷ more) fits e))
next_digit (suc n) m b more small fits e =
    let at : get_or (decimal m) (length (decimal (suc n))) 0 ≡ b = ap (λ (t : List ℕ). get_or t (length (decimal (suc n))) 0) e ∙ seam (decimal (suc n)) b more in
    let inside : length (decimal (suc n)) < length (decimal m) = omega (arith, ap (length {A = ℕ}) e, length-append (decimal (suc n)) (b ∷ more)) in
    let range = digit_at (decimal m) (length (decimal (suc n))) (digits_decimal own m (omega arith)) inside in
    let low : 48 ≤ b = omega (arith, range.0, at) in
    let high : b ≤ 57 = omega (arith, range.1, at) in
    record { low = low; high = high; pos = omega arith; text = next_text (suc n) b low high (omega arith) small }

-- every spelling begins with a digit and goes on behind it
pub record FirstDigit (m : ℕ) : Type 0 where
  pub digit : ℕ
  pub more : List ℕ
  pub low : 48 ≤ digit
  pub high : digit ≤ 57
  pub text : decimal m ≡ digit ∷ more
  pub begins : decimal m ≡ decimal (digit - 48) ++ more

first_at : (m : ℕ) (ds : List ℕ) → m < 2 ^ 32 → decimal m ≡ ds → FirstDigit m
first_at m [] small e = absurd (omega (arith, ap (length {A = ℕ}) e, decimal_nonempty m (omega arith)))
first_at m (b ∷ more) small e =
    let starts = decimal_starts m small in
    let at : get_or (decimal m) 0 0 ≡ b = ap (λ (t : List ℕ). get_or t 0 0) e in
    let low : 48 ≤ b = omega (arith, starts.low, at) in
    let high : b ≤ 57 = omega (arith, starts.high, at) in
    let digit : decimal (b - 48) ≡ b ∷ [] = decimal_digit (b - 48) (omega arith) ∙ ap (λ (k : ℕ). k ∷ []) (omega arith) in
    record { digit = b; more = more; low = low; high = high; text = e; begins = e ∙ ap (λ (t : List ℕ). t ++ more) (sym digit) }

pub first_digit : (m : ℕ) → m < 2 ^ 32 → FirstDigit m
first_digit m small = first_at m (decimal m) small refl
