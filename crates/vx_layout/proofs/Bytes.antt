-- How many characters the bytes of characters spell, whatever the characters are, and how many bytes characters take.
use Rattle.std.proofs.Common.{◌≡◌, ℕ, zero, suc, take, drop, ◌+◌, ◌*◌, ◌<◌, ◌≤◌, ◌/◌, ◌%◌, List, [], ◌∷◌, ◌++◌, length, cond, Bool, true, false, ltb, refl, ap, sym, ◌∙◌, arith}
use Rattle.std.specs.Str.{IsUtf8, IsCharBoundary, chars, chars_after, continuation_len, lead_bits}
use Rattle.std.specs.List.{sum_by}
use Rattle.std.proofs.lemmas.List.{length-append, take-append-drop}
use Rattle.std.proofs.lemmas.List.Recursion.{is_sum_by}
use Rattle.std.proofs.lemmas.Str.{chars-nil, length-encode, len_utf8_bounds, encodes-append, encodes-chars, scalars-chars, IsCharBoundary-at_seam}
use Rattle.std.proofs.lemmas.Bool.{and_parts}
use Rattle.std.proofs.lemmas.Bool.Decides.{nat_tests}
use lib.Utf8.{encode, encodes, scalar, scalars}

-- after the last byte of a character the next begins
whole : (c : ℕ) (bs : List ℕ) → length (chars_after 0 c bs) ≡ suc (length (chars bs))
unfolding chars
whole c [] = refl
whole c (b ∷ bs) = refl

one_byte : (a : ℕ) (bs : List ℕ) → continuation_len a ≡ 0 → length (chars (a ∷ bs)) ≡ suc (length (chars bs))
unfolding chars
one_byte a bs none = ap (λ (n : ℕ). length (chars_after n (lead_bits a) bs)) none ∙ whole (lead_bits a) bs

two_bytes : (a b : ℕ) (bs : List ℕ) → continuation_len a ≡ 1 → length (chars (a ∷ b ∷ bs)) ≡ suc (length (chars bs))
unfolding chars
two_bytes a b bs one = ap (λ (n : ℕ). length (chars_after n (lead_bits a) (b ∷ bs))) one ∙ whole _ bs

three_bytes : (a b c : ℕ) (bs : List ℕ) → continuation_len a ≡ 2 → length (chars (a ∷ b ∷ c ∷ bs)) ≡ suc (length (chars bs))
unfolding chars
three_bytes a b c bs two = ap (λ (n : ℕ). length (chars_after n (lead_bits a) (b ∷ c ∷ bs))) two ∙ whole _ bs

four_bytes : (a b c d : ℕ) (bs : List ℕ) → continuation_len a ≡ 3 → length (chars (a ∷ b ∷ c ∷ d ∷ bs)) ≡ suc (length (chars bs))
unfolding chars
four_bytes a b c d bs three = ap (λ (n : ℕ). length (chars_after n (lead_bits a) (b ∷ c ∷ d ∷ bs))) three ∙ whole _ bs

none-follow : (c : ℕ) → ltb c 128 ≡ true → continuation_len c ≡ 0
none-follow c low = grind (arith, nat_tests)

one-follows : (c : ℕ) → ltb c 2048 ≡ true → continuation_len (192 + c / 64) ≡ 1
one-follows c low =
    let few : c < 2048 = grind (arith, nat_tests) in
    let least : 192 + c / 64 < 224 = omega arith in
    grind (arith, nat_tests)

two-follow : (c : ℕ) → ltb c 65536 ≡ true → continuation_len (224 + c / 4096) ≡ 2
two-follow c low =
    let few : c < 65536 = grind (arith, nat_tests) in
    let least : 224 + c / 4096 < 240 = omega arith in
    grind (arith, nat_tests)

three-follow : (c : ℕ) → continuation_len (240 + c / 262144) ≡ 3
three-follow c = grind (arith, nat_tests)

by_tests : (t u v : Bool) (c : ℕ) (bs : List ℕ) → ltb c 128 ≡ t → ltb c 2048 ≡ u → ltb c 65536 ≡ v → length (chars (cond t (c ∷ []) (cond u ((192 + c / 64) ∷ (128 + c % 64) ∷ []) (cond v ((224 + c / 4096) ∷ (128 + c / 64 % 64) ∷ (128 + c % 64) ∷ []) ((240 + c / 262144) ∷ (128 + c / 4096 % 64) ∷ (128 + c / 64 % 64) ∷ (128 + c % 64) ∷ []))) ++ bs)) ≡ suc (length (chars bs))
by_tests true u v c bs h k l = one_byte c bs (none-follow c h)
by_tests false true v c bs h k l = two_bytes (192 + c / 64) (128 + c % 64) bs (one-follows c k)
by_tests false false true c bs h k l = three_bytes (224 + c / 4096) (128 + c / 64 % 64) (128 + c % 64) bs (two-follow c l)
by_tests false false false c bs h k l = four_bytes (240 + c / 262144) (128 + c / 4096 % 64) (128 + c / 64 % 64) (128 + c % 64) bs (three-follow c)

-- the bytes of a character spell one, before whatever follows
first-character : (c : ℕ) (bs : List ℕ) → length (chars (encode c ++ bs)) ≡ suc (length (chars bs))
unfolding encode
first-character c bs = by_tests (ltb c 128) (ltb c 2048) (ltb c 65536) c bs refl refl refl

-- the bytes of some characters spell so many
pub length-chars_encodes : (cs : List ℕ) → length (chars (encodes cs)) ≡ length cs
length-chars_encodes [] = ap length chars-nil
length-chars_encodes (c ∷ cs) = first-character c (encodes cs) ∙ ap suc (length-chars_encodes cs)

-- the bytes of characters, counted one character after another
pub length-encodes : (cs : List ℕ) → length (encodes cs) ≡ sum_by (λ c. length (encode c)) cs
length-encodes = is_sum_by (λ cs. length (encodes cs)) (λ c. length (encode c)) refl (λ c cs. length-append (encode c) (encodes cs))

-- a character takes four bytes at most
pub encodes-at_most : (cs : List ℕ) → length (encodes cs) ≤ 4 * length cs
encodes-at_most [] = omega arith
encodes-at_most (c ∷ cs) =
    omega (arith, length-append (encode c) (encodes cs), length-encode c, (len_utf8_bounds c).1, encodes-at_most cs)

-- characters that stand behind others are characters too
pub scalars-drop : (n : ℕ) (cs : List ℕ) → scalars cs ≡ true → scalars (drop n cs) ≡ true
scalars-drop zero cs all = all
scalars-drop (suc n) [] all = all
scalars-drop (suc n) (c ∷ cs) all = scalars-drop n cs (and_parts (scalar c) (scalars cs) all).1

-- a text is the bytes of its first characters, then those of the others
pub cut : (n : ℕ) (bs : List ℕ) → IsUtf8 bs → bs ≡ encodes (take n (chars bs)) ++ encodes (drop n (chars bs))
cut n bs u =
    sym (encodes-chars bs u) ∙ ap encodes (sym (take-append-drop n (chars bs))) ∙ encodes-append (take n (chars bs)) (drop n (chars bs))

-- and may be cut there
pub IsCharBoundary-cut : (n : ℕ) (bs : List ℕ) → IsUtf8 bs → IsCharBoundary bs (length (encodes (take n (chars bs))))
IsCharBoundary-cut n bs u =
    let back = drop n (chars bs) in
    IsCharBoundary-at_seam bs (encodes (take n (chars bs))) (encodes back) (cut n bs u) (back, (scalars-drop n (chars bs) (scalars-chars bs u), refl))
