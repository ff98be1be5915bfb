-- Texts without a line feed.
use Rattle.std.proofs.Common.{◌≡◌, ◌<◌, ◌+◌, ◌-◌, ◌/◌, ◌%◌, ◌==◌, ℕ, zero, suc, Bool, true, false, not, if◌then◌else◌, List, [], ◌∷◌, ◌++◌, length, get_or, reverse, replicate, refl, sym, ap, ◌∙◌, arith, append-nil, length-take, length-drop}
use Rattle.std.specs.Prelude.{nat_lt, encode_utf8, encode_utf8_all, chars}
use Rattle.std.specs.Char.{is_ascii_control}
use Rattle.std.specs.Fmt.{decimal, digits, digits_onto, digit_glyph}
use Rattle.std.specs.List.{flat_map, list_all, after_last, before_first, position_or_len, suffix_len}
use Rattle.std.proofs.lemmas.Bool.{and_parts, and_from, true≢false}
use Rattle.std.proofs.lemmas.List.{get_or-take, get_or-drop, get_or-reverse}
use Rattle.std.proofs.lemmas.List.Folds.{list_all-append}
use Rattle.std.proofs.lemmas.List.Sums.{prefix_len_passes, suffix_len-le-length}
use Rattle.std.proofs.lemmas.Str.{inside_one}
use Rattle.vx_base.proofs.Numbers.{equal-yes, equal-no, equal-from_yes}
use Rattle.vx_font.specs.Font.{dots_of}
use Rattle.vx_command_cards.specs.Cards.{code_word, told_character, told_name}
use Rattle.vx_command_cards.specs.Drawn.{is_blank, end_word, front_word}
use Rattle.vx_command_cards.specs.Laws.{is_feed}
use Rattle.vx_command_cards.specs.Lines.{hexadecimal, with_blanks}

abbrev pub is_no_feed : ℕ → Bool
is_no_feed b = not (is_feed b)

-- a text that has none
abbrev pub is_whole : List ℕ → Bool
is_whole text = list_all is_no_feed text

-- what a test passes that the line feed doesn't pass
pub no_feed : (test : ℕ → Bool) → test 10 ≡ false → (b : ℕ) → test b ≡ true → is_no_feed b ≡ true
no_feed test feed b passes = by (b == 10) refl
  where
    by : (t : Bool) → (b == 10) ≡ t → not t ≡ true
    by true same = absurd (true≢false (sym passes ∙ ap test (equal-from_yes b 10 same) ∙ feed))
    by false other = refl

-- a test that each element passes by its place
from-reads : (test : ℕ → Bool) (xs : List ℕ) → ((i : ℕ) → i < length xs → test (get_or xs i 0) ≡ true) → list_all test xs ≡ true
from-reads test [] each = refl
from-reads test (x ∷ xs) each =
    and_from (test x) (list_all test xs) (each 0 (omega arith)) (from-reads test xs (λ i low. each (suc i) (omega arith)))

pub joined : (a b : List ℕ) → is_whole a ≡ true → is_whole b ≡ true → is_whole (a ++ b) ≡ true
joined a b first second = list_all-append is_no_feed a b ∙ and_from (is_whole a) (is_whole b) first second

pub mapped : (f : ℕ → List ℕ) → ((c : ℕ) → is_whole (f c) ≡ true) → (cs : List ℕ) → is_whole (flat_map f cs) ≡ true
mapped f each [] = refl
mapped f each (c ∷ cs) = joined (f c) (flat_map f cs) (each c) (mapped f each cs)

-- words with blanks between them
blanks : (words : List (List ℕ)) → list_all is_whole words ≡ true → is_whole (with_blanks words) ≡ true
blanks [] all = refl
blanks (word ∷ []) all = (and_parts (is_whole word) true all).0
blanks (word ∷ next ∷ words) all =
    let parts = and_parts (is_whole word) (list_all is_whole (next ∷ words)) all in
    joined word (32 ∷ with_blanks (next ∷ words)) parts.0 (blanks (next ∷ words) parts.1)

-- the same of words one by one
abbrev pub Each : List (List ℕ) → Type 0
Each [] = Unit {0}
Each (word ∷ words) = (is_whole word ≡ true) × Each words

each-all : (words : List (List ℕ)) → Each words → list_all is_whole words ≡ true
each-all [] each = refl
each-all (word ∷ words) each = and_from (is_whole word) (list_all is_whole words) each.0 (each-all words each.1)

pub line : (words : List (List ℕ)) → Each words → is_whole (with_blanks words) ≡ true
line words each = blanks words (each-all words each)

-- numbers
glyph : (upper : Bool) (d : ℕ) → is_no_feed (digit_glyph upper d) ≡ true
glyph upper d = by (nat_lt d 10) upper
  where
    by : (small capital : Bool) → is_no_feed (if small then 48 + d else (if capital then 55 + d else 87 + d)) ≡ true
    by true capital = ap not (equal-no (48 + d) 10 (λ same. absurd (omega arith)))
    by false true = ap not (equal-no (55 + d) 10 (λ same. absurd (omega arith)))
    by false false = ap not (equal-no (87 + d) 10 (λ same. absurd (omega arith)))

pick : (t : Bool) (a b : List ℕ) → is_whole a ≡ true → is_whole b ≡ true → is_whole (if t then a else b) ≡ true
pick true a b first second = first
pick false a b first second = second

onto : (k base : ℕ) (upper : Bool) (n : ℕ) (rest : List ℕ) → is_whole rest ≡ true → is_whole (digits_onto k base upper n rest) ≡ true
onto zero base upper n rest whole = whole
onto (suc k) base upper n rest whole =
    let digit = digit_glyph upper (n % base) in
    let more : is_whole (digit ∷ rest) ≡ true = and_from (is_no_feed digit) (is_whole rest) (glyph upper (n % base)) whole in
    pick (n / base == 0) (digit ∷ rest) (digits_onto k base upper (n / base) (digit ∷ rest)) more (onto k base upper (n / base) (digit ∷ rest) more)

pub number : (n : ℕ) → is_whole (decimal n) ≡ true
unfolding digits
number n = onto 64 10 false n [] refl

zeros : (k : ℕ) → is_whole (replicate k 48) ≡ true
zeros zero = refl
zeros (suc k) = zeros k

pub hex : (capital : Bool) (n : ℕ) → is_whole (hexadecimal capital n) ≡ true
unfolding hexadecimal digits
hex capital n = joined (replicate (4 - length (digits 16 capital n)) 48) (digits 16 capital n) (zeros (4 - length (digits 16 capital n))) (onto 64 16 capital n [] refl)

-- characters
encoded : (c : ℕ) → is_no_feed c ≡ true → is_whole (encode_utf8 c) ≡ true
encoded c other = from-reads is_no_feed (encode_utf8 c) at
  where
    at : (i : ℕ) → i < length (encode_utf8 c) → is_no_feed (get_or (encode_utf8 c) i 0) ≡ true
    at i low = by (get_or (encode_utf8 c) i 0 == 10) refl
      where
        by : (t : Bool) → (get_or (encode_utf8 c) i 0 == 10) ≡ t → not t ≡ true
        by false other-byte = refl
        by true is =
            let byte = equal-from_yes (get_or (encode_utf8 c) i 0) 10 is in
            let same : c ≡ get_or (encode_utf8 c) i 0 = inside_one c [] (encode_utf8 c) i (sym (append-nil (encode_utf8 c))) low (omega (arith, byte)) in
            absurd (true≢false (sym other ∙ ap not (equal-yes c 10 (same ∙ byte))))

encoded-all : (cs : List ℕ) → list_all is_no_feed cs ≡ true → is_whole (encode_utf8_all cs) ≡ true
encoded-all [] all = refl
encoded-all (c ∷ cs) all =
    let parts = and_parts (is_no_feed c) (list_all is_no_feed cs) all in
    joined (encode_utf8 c) (encode_utf8_all cs) (encoded c parts.0) (encoded-all cs parts.1)

-- a name as it is told
told : (c : ℕ) → is_whole (told_character c) ≡ true
unfolding told_character
told c = by (c == 92) (is_ascii_control c) refl
  where
    by : (backslash control : Bool) → is_ascii_control c ≡ control → is_whole (if backslash then 92 ∷ 92 ∷ [] else (if control then code_word c else encode_utf8 c)) ≡ true
    by true control is = refl
    by false true is = hex false c
    by false false is = encoded c (no_feed (λ b. not (is_ascii_control b)) refl c (ap not is))

pub name : (text : List ℕ) → is_whole (told_name text) ≡ true
name text = mapped told_character told (chars text)

-- the words round a cut
shown : (c : ℕ) → not (is_blank c) ≡ true → is_no_feed c ≡ true
unfolding dots_of
shown c is = no_feed (λ b. not (is_blank b)) refl c is

pub front : (cs : List ℕ) → is_whole (front_word cs) ≡ true
front cs = encoded-all (before_first is_blank cs) (from-reads is_no_feed (before_first is_blank cs) at)
  where
    at : (i : ℕ) → i < length (before_first is_blank cs) → is_no_feed (get_or (before_first is_blank cs) i 0) ≡ true
    at i low =
        let n = position_or_len is_blank cs in
        let within : i < n = omega (arith, low, length-take n cs) in
        ap is_no_feed (get_or-take n cs i 0 within) ∙ shown (get_or cs i 0) (prefix_len_passes (λ c. not (is_blank c)) cs i 0 within)

pub end : (cs : List ℕ) → is_whole (end_word cs) ≡ true
end cs = encoded-all (after_last is_blank cs) (from-reads is_no_feed (after_last is_blank cs) at)
  where
    at : (i : ℕ) → i < length (after_last is_blank cs) → is_no_feed (get_or (after_last is_blank cs) i 0) ≡ true
    at i low =
        let kept = suffix_len (λ c. not (is_blank c)) cs in
        let from = length cs - kept in
        let few = suffix_len-le-length (λ c. not (is_blank c)) cs in
        let within : i < kept = omega (arith, few, low, length-drop from cs) in
        let place : length cs - 1 - (kept - 1 - i) ≡ from + i = omega (arith, few, within) in
        let read = get_or-reverse cs (kept - 1 - i) 0 (omega (arith, few, within)) ∙ ap (λ (k : ℕ). get_or cs k 0) place in
        let passes = prefix_len_passes (λ c. not (is_blank c)) (reverse cs) (kept - 1 - i) 0 (omega (arith, within)) in
        ap is_no_feed (get_or-drop from cs i 0) ∙ shown (get_or cs (from + i) 0) (sym (ap (λ c. not (is_blank c)) read) ∙ passes)
