-- Hex digits and the bytes that they say.
use Rattle.std.proofs.Common.{◌≡◌, ℕ, zero, suc, ◌+◌, ◌-◌, ◌*◌, ◌/◌, ◌%◌, ◌≤◌, ◌<◌, Bool, true, false, cond, List, [], ◌∷◌, ◌++◌, length, refl, ap, sym, subst, ◌∙◌, inl, inr, arith, append-nil, length-append}
use Rattle.std.specs.Prelude.{Result, Ok, Err, Option, Some, None, ◌&&◌, ◌||◌, ◌==◌, nat_le, nat_lt, slice_index, codes}
use Rattle.std.specs.List.{list_all}
use Rattle.std.proofs.lemmas.Bool.Decides.{nat_tests}
use Rattle.std.proofs.lemmas.Bool.{ne_eqb, le-leb, lt-leb, leb-true, eqb-true, agree_below_at, cond-true, cond-false, lt-ltb, le-ltb, ltb-true, cases_lt}
use Rattle.hex.specs.Hex.{encode_lower, encode_with, lower_digits, hex_digit_value, digit_or_error, value_at, pair_value, decode_pairs, decode_of}
use Rattle.hex.specs.declared.error.FromHexError.{FromHexError}
use Rattle.vx_base.proofs.Booleans.{and-left, and-right, and-both, or-cases, or-left, or-right}
use Rattle.vx_json.specs.Reading.{is_within}
use Rattle.vx_records.specs.Letters.{is_hex}
use Rattle.vx_records.specs.Records.{spaced}
use Rattle.vx_records.specs.Laws.{IsDigest, header_text, HeadersAreRead}
use Rattle.vx_records.specs.Parts.{found, done, word_in, ended, letters_in}
use Rattle.vx_records.specs.Reading.{hex_value, bytes_of, header_word, header_in, digest_in}
use Rattle.vx_records.proofs.Grammar.{Part, Both, Some_text, StopsAt-any, any, none, then_in, then_part}
use Rattle.vx_records.proofs.Steps.{Spelled, Mapped, map_in, map_part, same_texts, ended_part}
use Rattle.vx_records.proofs.KeyParts.{some_both, some_mapped}
use Rattle.vx_records.proofs.Range.{within, within_low, within_high}
use Rattle.vx_records.proofs.Runs.{Word, word_part, AreLetters, letters_part, no_letter}

digit_low : (c : ℕ) → 48 ≤ c → c ≤ 57 → hex_digit_value c ≡ Some (hex_value c)
digit_low c h k = grind (arith, nat_tests)

digit_high : (c : ℕ) → 97 ≤ c → c ≤ 102 → hex_digit_value c ≡ Some (hex_value c)
digit_high c h k = grind (arith, nat_tests)

digit_value : (c : ℕ) → is_hex c ≡ true → hex_digit_value c ≡ Some (hex_value c)
digit_value c h = or-cases (is_within 48 57 c) (is_within 97 102 c) h
    (λ k. digit_low c (within_low 48 57 c k) (within_high 48 57 c k))
    (λ k. digit_high c (within_low 97 102 c k) (within_high 97 102 c k))

pair_of : (high low i : ℕ) → is_hex high ≡ true → is_hex low ≡ true → pair_value high low i ≡ Ok (hex_value high * 16 + hex_value low)
pair_of high low i h k = rw (digit_value high h) (rw (digit_value low k) refl)

pairs : (n i : ℕ) (text : List ℕ) → length text ≡ 2 * n → list_all is_hex text ≡ true → decode_pairs i text ≡ Ok (bytes_of text)
unfolding decode_pairs bytes_of
pairs n i [] e h = refl
pairs n i (b ∷ []) e h = absurd (omega (arith, e))
pairs zero i (b ∷ c ∷ text) e h = absurd (omega (arith, e))
pairs (suc n) i (b ∷ c ∷ text) e h =
    let one = and-left (is_hex b) (list_all is_hex (c ∷ text)) h in
    let more = and-right (is_hex b) (list_all is_hex (c ∷ text)) h in
    let two = and-left (is_hex c) (list_all is_hex text) more in
    let rest = pairs n (i + 2) text (omega (arith, e)) (and-right (is_hex c) (list_all is_hex text) more) in
    rw (pair_of b c i one two) (rw rest refl)

pub hex_decoded : (text : List ℕ) → length text ≡ 64 → list_all is_hex text ≡ true → decode_of text ≡ Ok (bytes_of text)
hex_decoded text e h =
    let even : (length text % 2 == 1) ≡ false = ne_eqb (length text % 2) 1 (λ k. absurd (omega (arith, e, k))) in
    rw even (pairs 32 0 text e h)

pub hex_read : (text hex rest : List ℕ) → letters_in is_hex 64 64 text ≡ found hex rest → decode_of hex ≡ Ok (bytes_of hex)
hex_read text hex rest e =
    let is = ((letters_part is_hex 64 64).only text hex rest e).is.is in
    hex_decoded hex (omega (arith, is.low, is.high)) is.letters

-- digits and bytes, both ways
digit_test : ℕ → Bool
digit_test k = slice_index lower_digits k == cond (nat_lt k 10) (48 + k) (87 + k)

digit_true : ℕ → Bool
digit_true k = true

digit_at : (k : ℕ) → k < 16 → slice_index lower_digits k ≡ cond (nat_lt k 10) (48 + k) (87 + k)
unfolding digit_test digit_true
digit_at k h = eqb-true (slice_index lower_digits k) (cond (nat_lt k 10) (48 + k) (87 + k)) (agree_below_at digit_test digit_true 16 k refl h)

digit_below_10 : (k : ℕ) → k < 10 → slice_index lower_digits k ≡ 48 + k
digit_below_10 k h = digit_at k (omega arith) ∙ cond-true (nat_lt k 10) (48 + k) (87 + k) (lt-ltb k 10 h)

digit_from_10 : (k : ℕ) → 10 ≤ k → k < 16 → slice_index lower_digits k ≡ 87 + k
digit_from_10 k h j = digit_at k j ∙ cond-false (nat_lt k 10) (48 + k) (87 + k) (le-ltb k 10 h)

value_low : (c : ℕ) → c ≤ 57 → hex_value c ≡ c - 48
value_low c h = cond-true (nat_le c 57) (c - 48) (c - 87) (le-leb c 57 h)

value_high : (c : ℕ) → 58 ≤ c → hex_value c ≡ c - 87
value_high c h = cond-false (nat_le c 57) (c - 48) (c - 87) (lt-leb c 57 (omega arith))

record HexDigit (c : ℕ) : Type 0 where
  small : hex_value c < 16
  back : slice_index lower_digits (hex_value c) ≡ c

hex_low : (c : ℕ) → 48 ≤ c → c ≤ 57 → HexDigit c
hex_low c h j =
    let v : hex_value c ≡ c - 48 = value_low c j in
    record { small = omega (arith, v); back = ap (slice_index lower_digits) v ∙ digit_below_10 (c - 48) (omega arith) ∙ same c h } where
      same : (c : ℕ) → 48 ≤ c → 48 + (c - 48) ≡ c
      same c h = omega arith

hex_high : (c : ℕ) → 97 ≤ c → c ≤ 102 → HexDigit c
hex_high c h j =
    let v : hex_value c ≡ c - 87 = value_high c (omega arith) in
    record { small = omega (arith, v); back = ap (slice_index lower_digits) v ∙ digit_from_10 (c - 87) (omega arith) (omega arith) ∙ same c h } where
      same : (c : ℕ) → 97 ≤ c → 87 + (c - 87) ≡ c
      same c h = omega arith

hex_digit : (c : ℕ) → is_hex c ≡ true → HexDigit c
hex_digit c h = or-cases (is_within 48 57 c) (is_within 97 102 c) h
    (λ k. hex_low c (within_low 48 57 c k) (within_high 48 57 c k))
    (λ k. hex_high c (within_low 97 102 c k) (within_high 97 102 c k))

record DigitHex (k : ℕ) : Type 0 where
  is : is_hex (slice_index lower_digits k) ≡ true
  value : hex_value (slice_index lower_digits k) ≡ k

digit_hex_at : (k d : ℕ) → slice_index lower_digits k ≡ d → is_hex d ≡ true → hex_value d ≡ k → DigitHex k
digit_hex_at k d e h j = record { is = ap is_hex e ∙ h; value = ap hex_value e ∙ j }

digit_hex : (k : ℕ) → k < 16 → DigitHex k
digit_hex k h = elim (cases_lt k 10) [
  | inl a ↦ digit_hex_at k (48 + k) (digit_below_10 k a) (or-left (is_within 48 57 (48 + k)) (is_within 97 102 (48 + k)) (within 48 57 (48 + k) (omega arith) (omega arith))) (value_low (48 + k) (omega arith) ∙ low_back k)
  | inr a ↦ digit_hex_at k (87 + k) (digit_from_10 k a h) (or-right (is_within 48 57 (87 + k)) (is_within 97 102 (87 + k)) (within 97 102 (87 + k) (omega arith) (omega arith))) (value_high (87 + k) (omega arith) ∙ high_back k)
] where
  low_back : (k : ℕ) → (48 + k) - 48 ≡ k
  low_back k = omega arith

  high_back : (k : ℕ) → (87 + k) - 87 ≡ k
  high_back k = omega arith

-- the text of the bytes of a text is the text
text_back : (n : ℕ) (text : List ℕ) → length text ≡ 2 * n → list_all is_hex text ≡ true → encode_lower (bytes_of text) ≡ text
unfolding bytes_of encode_with
text_back n [] e h = refl
text_back n (b ∷ []) e h = absurd (omega (arith, e))
text_back zero (b ∷ c ∷ text) e h = absurd (omega (arith, e))
text_back (suc n) (b ∷ c ∷ text) e h =
    let more = and-right (is_hex b) (list_all is_hex (c ∷ text)) h in
    let one = hex_digit b (and-left (is_hex b) (list_all is_hex (c ∷ text)) h) in
    let two = hex_digit c (and-left (is_hex c) (list_all is_hex text) more) in
    let rest = text_back n text (omega (arith, e)) (and-right (is_hex c) (list_all is_hex text) more) in
    let high : (hex_value b * 16 + hex_value c) / 16 ≡ hex_value b = omega (arith, one.small, two.small) in
    let low : (hex_value b * 16 + hex_value c) % 16 ≡ hex_value c = omega (arith, one.small, two.small) in
    let first : slice_index lower_digits ((hex_value b * 16 + hex_value c) / 16) ≡ b = ap (slice_index lower_digits) high ∙ one.back in
    let second : slice_index lower_digits ((hex_value b * 16 + hex_value c) % 16) ≡ c = ap (slice_index lower_digits) low ∙ two.back in
    ap (λ (x : ℕ). x ∷ slice_index lower_digits ((hex_value b * 16 + hex_value c) % 16) ∷ encode_lower (bytes_of text)) first
    ∙ ap (λ (x : ℕ). b ∷ x ∷ encode_lower (bytes_of text)) second
    ∙ ap (λ (x : List ℕ). b ∷ c ∷ x) rest

-- what bytes are
record Bytes_of (text : List ℕ) (n : ℕ) : Type 0 where
  size : length (bytes_of text) ≡ n
  bytes : list_all (λ byte. nat_lt byte 256) (bytes_of text) ≡ true

bytes_are : (n : ℕ) (text : List ℕ) → length text ≡ 2 * n → list_all is_hex text ≡ true → Bytes_of text n
unfolding bytes_of
bytes_are zero [] e h = record { size = refl; bytes = refl }
bytes_are (suc n) [] e h = absurd (omega (arith, e))
bytes_are n (b ∷ []) e h = absurd (omega (arith, e))
bytes_are zero (b ∷ c ∷ text) e h = absurd (omega (arith, e))
bytes_are (suc n) (b ∷ c ∷ text) e h =
    let more = and-right (is_hex b) (list_all is_hex (c ∷ text)) h in
    let one = hex_digit b (and-left (is_hex b) (list_all is_hex (c ∷ text)) h) in
    let two = hex_digit c (and-left (is_hex c) (list_all is_hex text) more) in
    let rest = bytes_are n text (omega (arith, e)) (and-right (is_hex c) (list_all is_hex text) more) in
    record {
      size = ap suc rest.size;
      bytes = and-both (nat_lt (hex_value b * 16 + hex_value c) 256) (list_all (λ byte. nat_lt byte 256) (bytes_of text)) (lt-ltb (hex_value b * 16 + hex_value c) 256 (omega (arith, one.small, two.small))) rest.bytes;
    }

-- the bytes of the text of bytes are the bytes
record Text_of (digest : List ℕ) : Type 0 where
  back : bytes_of (encode_lower digest) ≡ digest
  letters : list_all is_hex (encode_lower digest) ≡ true
  size : length (encode_lower digest) ≡ 2 * length digest

text_of : (digest : List ℕ) → list_all (λ byte. nat_lt byte 256) digest ≡ true → Text_of digest
unfolding bytes_of encode_with
text_of [] h = record { back = refl; letters = refl; size = refl }
text_of (b ∷ digest) h =
    let small = ltb-true b 256 (and-left (nat_lt b 256) (list_all (λ byte. nat_lt byte 256) digest) h) in
    let rest = text_of digest (and-right (nat_lt b 256) (list_all (λ byte. nat_lt byte 256) digest) h) in
    let one = digit_hex (b / 16) (omega (arith, small)) in
    let two = digit_hex (b % 16) (omega (arith, small)) in
    let high = slice_index lower_digits (b / 16) in
    let low = slice_index lower_digits (b % 16) in
    let byte : hex_value high * 16 + hex_value low ≡ b = byte_back b (hex_value high) (hex_value low) one.value two.value in
    record {
      back = ap (λ (x : ℕ). x ∷ bytes_of (encode_lower digest)) byte ∙ ap (λ (x : List ℕ). b ∷ x) rest.back;
      letters = and-both (is_hex high) (is_hex low && list_all is_hex (encode_lower digest)) one.is (and-both (is_hex low) (list_all is_hex (encode_lower digest)) two.is rest.letters);
      size = size_at b digest (length (encode_lower digest)) rest.size;
    } where
      byte_back : (b h l : ℕ) → h ≡ b / 16 → l ≡ b % 16 → h * 16 + l ≡ b
      byte_back b h l e f = omega (arith, e, f)

      size_at : (b : ℕ) (digest : List ℕ) (n : ℕ) → n ≡ 2 * length digest → suc (suc n) ≡ 2 * length (b ∷ digest)
      size_at b digest n e = omega (arith, e)

-- 64 digits of 32 bytes, to the end of the text
hex_ended : Part (Spelled (AreLetters is_hex 64 64) (λ x. x)) none (λ s. ended (letters_in is_hex 64 64 s))
hex_ended = ended_part (AreLetters is_hex 64 64) (λ x. x) (no_letter is_hex) (letters_in is_hex 64 64) (letters_part is_hex 64 64)

abbrev Digest_text : List ℕ → List ℕ → Type 0
Digest_text = Mapped bytes_of (Spelled (AreLetters is_hex 64 64) (λ x. x))

abbrev Behind_word : Unit {0} → ℕ → List ℕ → List ℕ → Type 0
Behind_word a n = Digest_text

sixteen_fours : Some_text (Spelled (AreLetters is_hex 64 64) (λ x. x))
sixteen_fours = record { b = zeros; w = zeros; is = record { is = record { letters = refl; low = omega arith; high = omega arith }; text = refl } } where
  eight : List ℕ → List ℕ
  eight rest = 48 ∷ 48 ∷ 48 ∷ 48 ∷ 48 ∷ 48 ∷ 48 ∷ 48 ∷ rest

  zeros : List ℕ
  zeros = eight (eight (eight (eight (eight (eight (eight (eight [])))))))

header_both : Part (Both (Word header_word) Behind_word) none header_in
unfolding header_in
header_both = then_part (Word header_word) any (word_in header_word) Behind_word none (λ a n. map_in bytes_of (λ s. ended (letters_in is_hex 64 64 s)))
    (word_part header_word) (λ a n. map_part bytes_of hex_ended) (λ a u h. some_mapped bytes_of sixteen_fours) (λ a n b w x h k. StopsAt-any (w ++ x))

header_text_is : (hex : List ℕ) → header_word ++ hex ≡ 49 ∷ spaced (codes "election" ∷ hex ∷ [])
unfolding header_word
header_text_is hex = ap (λ (t : List ℕ). codes "1 election " ++ t) (sym (append-nil hex))

header_to : (digest u : List ℕ) → Both (Word header_word) Behind_word digest u → Spelled IsDigest header_text digest u
header_to digest u h =
    let m = h.second in
    let size : length m.a ≡ 2 * 32 = omega (arith, m.is.is.low, m.is.is.high) in
    let bytes = bytes_are 32 m.a size m.is.is.letters in
    subst (λ (d : List ℕ). Spelled IsDigest header_text d u) (sym m.value) (record {
      is = record { size = bytes.size; bytes = bytes.bytes };
      text = h.text ∙ ap (λ (t : List ℕ). t ++ h.w) h.first.text ∙ ap (λ (t : List ℕ). header_word ++ t) (m.is.text ∙ sym (text_back 32 m.a size m.is.is.letters)) ∙ header_text_is (encode_lower (bytes_of m.a));
    })

header_back : (digest u : List ℕ) → Spelled IsDigest header_text digest u → Both (Word header_word) Behind_word digest u
header_back digest u h =
    let t = text_of digest h.is.bytes in
    record {
      a = done;
      u = header_word;
      w = encode_lower digest;
      first = record { is = tt; text = refl };
      second = record {
        a = encode_lower digest;
        is = record { is = record { letters = t.letters; low = omega (arith, t.size, h.is.size); high = omega (arith, t.size, h.is.size) }; text = refl };
        value = sym t.back;
      };
      text = h.text ∙ sym (header_text_is (encode_lower digest));
    }

-- the headers of digests
pub header_part : Part (Spelled IsDigest header_text) none header_in
header_part = same_texts header_both (λ d u h. header_to d u h) (λ d u h. header_back d u h)

pub some_header : Some_text (Spelled IsDigest header_text)
some_header =
    let both = some_both {P = Word header_word} {Q = Behind_word} (record { b = done; w = header_word; is = record { is = tt; text = refl } }) (λ a n. some_mapped bytes_of sixteen_fours) in
    record { b = both.b; w = both.w; is = header_to both.b both.w both.is }

pub header_length : (digest : List ℕ) → IsDigest digest → length (header_text digest) ≤ 76
unfolding header_word
header_length digest h =
    let t = text_of digest h.bytes in
    omega (arith, t.size, h.size, ap (length {A = ℕ}) (header_text_is (encode_lower digest)), length-append header_word (encode_lower digest))
