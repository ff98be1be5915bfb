-- Texts that lack a byte, and the parts that they are.
use Rattle.std.proofs.Common.{◌≡◌, ◌<◌, ◌^◌, ℕ, Bool, true, false, List, [], ◌∷◌, ◌++◌, cond, arith, refl, sym, ap, ◌∙◌, append_assoc}
use Rattle.std.specs.Prelude.{◌==◌}
use Rattle.std.specs.Fmt.{decimal}
use Rattle.std.specs.Str.Parse.{AllDigits, digits_value}
use Rattle.std.proofs.lemmas.Str.Parse.{IsNumeralModel, numerals_by_value, tells_digits, digit_from_value}
use Rattle.std.proofs.lemmas.Fmt.{digits_decimal}
use Rattle.vx_base.proofs.Numbers.{equal-yes, equal-no}
use Rattle.vx_readings.specs.Parts.{begun_with, parts_of, lines_of}
use Rattle.vx_readings.specs.ReadingText.{line_of}

-- whether a byte stands nowhere in a text
abbrev pub lacks : ℕ → List ℕ → Bool
lacks at [] = true
lacks at (byte ∷ text) = cond (byte == at) false (lacks at text)

pub lacks-both : (at : ℕ) (a b : List ℕ) → lacks at a ≡ true → lacks at b ≡ true → lacks at (a ++ b) ≡ true
lacks-both at [] b la lb = lb
lacks-both at (byte ∷ a) b la lb = more (byte == at) la
    (λ la. lacks-both at a b la lb)
  where
    more : (is : Bool) → cond is false (lacks at a) ≡ true → (lacks at a ≡ true → lacks at (a ++ b) ≡ true) → cond is false (lacks at (a ++ b)) ≡ true
    more true la then = absurd cc
    more false la then = then la

-- a part that lacks the byte is one part
pub parts-last : (at : ℕ) (text : List ℕ) → lacks at text ≡ true → parts_of at text ≡ text ∷ []
unfolding parts_of
parts-last at [] lacking = refl
parts-last at (byte ∷ text) lacking = last (byte == at) lacking (λ lacking. parts-last at text lacking)
  where
    last : (is : Bool) → cond is false (lacks at text) ≡ true → (lacks at text ≡ true → parts_of at text ≡ text ∷ [])
        → cond is ([] ∷ parts_of at text) (begun_with byte (parts_of at text)) ≡ (byte ∷ text) ∷ []
    last true lacking then = absurd cc
    last false lacking then = ap (begun_with byte) (then lacking)

-- the first part ends at the byte
pub parts-first : (at : ℕ) (text rest : List ℕ) → lacks at text ≡ true → parts_of at (text ++ at ∷ rest) ≡ text ∷ parts_of at rest
unfolding parts_of
parts-first at [] rest lacking = rw (equal-yes at at refl) refl
parts-first at (byte ∷ text) rest lacking = first (byte == at) lacking (λ lacking. parts-first at text rest lacking)
  where
    first : (is : Bool) → cond is false (lacks at text) ≡ true → (lacks at text ≡ true → parts_of at (text ++ at ∷ rest) ≡ text ∷ parts_of at rest)
        → cond is ([] ∷ parts_of at (text ++ at ∷ rest)) (begun_with byte (parts_of at (text ++ at ∷ rest))) ≡ (byte ∷ text) ∷ parts_of at rest
    first true lacking then = absurd cc
    first false lacking then = ap (begun_with byte) (then lacking)

-- the first line ends at its LF
pub line-first : (text rest : List ℕ) → lacks 10 text ≡ true → lines_of (text ++ 10 ∷ rest) ≡ text ∷ lines_of rest
unfolding lines_of
line-first [] rest lacking = refl
line-first (byte ∷ text) rest lacking = first (byte == 10) lacking (λ lacking. line-first text rest lacking)
  where
    first : (is : Bool) → cond is false (lacks 10 text) ≡ true → (lacks 10 text ≡ true → lines_of (text ++ 10 ∷ rest) ≡ text ∷ lines_of rest)
        → cond is ([] ∷ lines_of (text ++ 10 ∷ rest)) (begun_with byte (lines_of (text ++ 10 ∷ rest))) ≡ (byte ∷ text) ∷ lines_of rest
    first true lacking then = absurd cc
    first false lacking then = ap (begun_with byte) (then lacking)

-- digits are none of the bytes below `0`
digits-lack : (at : ℕ) (ds : List ℕ) → at < 48 → AllDigits 10 ds → lacks at ds ≡ true
digits-lack at [] low all = refl
digits-lack at (c ∷ ds) low all =
    let digit = digit_from_value c all.0 in
    let other : c ≡ at → ⊥ = λ same. omega (arith, digit, same, low) in
    rw (equal-no c at other) (digits-lack at ds low all.1)

own : IsNumeralModel (AllDigits 10) (digits_value 10)
own = numerals_by_value (AllDigits 10) tells_digits

pub decimal-lacks : (at n : ℕ) → at < 48 → n < 2 ^ 64 → lacks at (decimal n) ≡ true
decimal-lacks at n low small = digits-lack at (decimal n) low (digits_decimal own n small)

-- a word has no blank and no LF
pub record IsWord (word : List ℕ) : Type 0 where
  pub no_line : lacks 10 word ≡ true
  pub no_blank : lacks 32 word ≡ true

pub number-word : (n : ℕ) → n < 2 ^ 32 → IsWord (decimal n)
number-word n small = record {
  no_line = decimal-lacks 10 n (omega arith) (omega arith);
  no_blank = decimal-lacks 32 n (omega arith) (omega arith);
}

-- words of a line
abbrev pub AreWords : List (List ℕ) → Type 0
AreWords [] = Unit {0}
AreWords (word ∷ words) = IsWord word × AreWords words

-- a line without its LF
abbrev joined : List (List ℕ) → List ℕ
joined [] = []
joined (word ∷ []) = word
joined (word ∷ next ∷ words) = word ++ 32 ∷ joined (next ∷ words)

line-joined : (words : List (List ℕ)) → line_of words ≡ joined words ++ 10 ∷ []
line-joined [] = refl
line-joined (word ∷ []) = refl
line-joined (word ∷ next ∷ words) =
    ap (λ (line : List ℕ). word ++ 32 ∷ line) (line-joined (next ∷ words)) ∙ sym (append_assoc word (32 ∷ joined (next ∷ words)) (10 ∷ []))

joined-line : (words : List (List ℕ)) → AreWords words → lacks 10 (joined words) ≡ true
joined-line [] all = refl
joined-line (word ∷ []) all = all.0.no_line
joined-line (word ∷ next ∷ words) all = lacks-both 10 word (32 ∷ joined (next ∷ words)) all.0.no_line (joined-line (next ∷ words) all.1)

joined-words : (word : List ℕ) (words : List (List ℕ)) → AreWords (word ∷ words) → parts_of 32 (joined (word ∷ words)) ≡ word ∷ words
joined-words word [] all = parts-last 32 word all.0.no_blank
joined-words word (next ∷ words) all =
    parts-first 32 word (joined (next ∷ words)) all.0.no_blank ∙ ap (λ (more : List (List ℕ)). word ∷ more) (joined-words next words all.1)

-- a line that was written, and the words that it has
pub record IsFirstLine (word : List ℕ) (words : List (List ℕ)) (rest : List ℕ) : Type 0 where
  pub line : List ℕ
  pub lines : lines_of (line_of (word ∷ words) ++ rest) ≡ line ∷ lines_of rest
  pub has : parts_of 32 line ≡ word ∷ words

pub first-line : (word : List ℕ) (words : List (List ℕ)) (rest : List ℕ) → AreWords (word ∷ words) → IsFirstLine word words rest
first-line word words rest all = record {
  line = joined (word ∷ words);
  lines =
      ap lines_of (ap (λ (line : List ℕ). line ++ rest) (line-joined (word ∷ words)) ∙ append_assoc (joined (word ∷ words)) (10 ∷ []) rest)
      ∙ line-first (joined (word ∷ words)) rest (joined-line (word ∷ words) all);
  has = joined-words word words all;
}
