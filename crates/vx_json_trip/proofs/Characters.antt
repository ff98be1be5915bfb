-- The content of a string in a text that is UTF-8 is UTF-8.
use Rattle.std.proofs.Common.{◌≡◌, ℕ, ◌+◌, ◌*◌, ◌<◌, Bool, true, false, cond, ◌&&◌, ◌==◌, nat_lt, List, [], ◌∷◌, ◌++◌, length, drop, get_or, Option, Some, None, option_and_then, refl, sym, ap, subst, ◌∙◌, arith, IsUtf8, append_assoc, append-nil}
use Rattle.std.proofs.lemmas.Bool.{eqb-true, and_parts}
use Rattle.std.proofs.lemmas.Bool.Decides.{nat_tests}
use Rattle.std.proofs.lemmas.List.{length-append, take_at, drop_at, get_or_at}
use Rattle.std.proofs.lemmas.Str.{IsUtf8-append, IsUtf8-take, IsUtf8-drop, IsUtf8-encode, IsCharBoundary-before_ascii, IsCharBoundary-after_ascii}
use Rattle.std.specs.Prelude.{⊤}
use Rattle.std.specs.Char.{is_digit, digit_value, encode_utf8, IsScalar}
use Rattle.json.specs.Text.{code_unit, short_escape, is_high_surrogate, is_low_surrogate, surrogate_pair, Within, plain, after_backslash, after_u, after_high, prepend, content}
use Rattle.json.proofs.Printed.Utf8.{IsUtf8-are_ascii}

pub seam : (f : List ℕ) (x : ℕ) (xs : List ℕ) → f ++ x ∷ xs ≡ (f ++ x ∷ []) ++ xs
seam f x xs = sym (append_assoc f (x ∷ []) xs)

-- an ASCII byte of a text cuts it into two
pub cut : (f : List ℕ) (x : ℕ) (xs : List ℕ) → x < 128 → IsUtf8 (f ++ x ∷ xs) → IsUtf8 f × IsUtf8 xs
cut f x xs small u =
    let text : List ℕ = f ++ x ∷ xs in
    let there : length f < length text = omega (arith, length-append f (x ∷ xs)) in
    let at : get_or text (length f) 0 ≡ x = get_or_at f x xs 0 (length f) refl in
    let low : get_or text (length f) 0 < 128 = omega (arith, at, small) in
    let behind : drop (length f + 1) text ≡ xs =
    ap (drop (length f + 1)) (seam f x xs) ∙ drop_at (f ++ x ∷ []) xs (length f + 1) (length-append f (x ∷ [])) in (
      subst IsUtf8 (take_at f (x ∷ xs) (length f) refl) (IsUtf8-take text (length f) u (IsCharBoundary-before_ascii text (length f) there low)),
      subst IsUtf8 behind (IsUtf8-drop text (length f + 1) u (IsCharBoundary-after_ascii text (length f) u there low)),
    )

-- what is found behind some bytes is UTF-8 with them
abbrev pub IsFound : List ℕ → Option (List ℕ) → Type 0
IsFound f None = ⊤
IsFound f (Some s) = IsUtf8 (f ++ s)

-- what is left of a text when its content is read so far
abbrev pub IsLeft : Within → List ℕ → List ℕ → Type 0
IsLeft plain f xs = IsUtf8 (f ++ xs)
IsLeft after_backslash f xs = IsUtf8 f × IsUtf8 xs
IsLeft after_u f xs = IsUtf8 f × IsUtf8 xs
IsLeft (after_high h) f xs = (is_high_surrogate h ≡ true) × IsUtf8 f × IsUtf8 xs

both : (f : List ℕ) (b : Bool) (x y : Option (List ℕ)) → (b ≡ true → IsFound f x) → (b ≡ false → IsFound f y) → IsFound f (cond b x y)
both f true x y front back = front refl
both f false x y front back = back refl

then : (f : List ℕ) (next : ℕ → Option (List ℕ)) (o : Option ℕ) → ((u : ℕ) → o ≡ Some u → IsFound f (next u)) → IsFound f (option_and_then next o)
then f next None all = tt
then f next (Some u) all = all u refl

longer : (f bytes : List ℕ) (r : Option (List ℕ)) → IsFound (f ++ bytes) r → IsFound f (prepend bytes r)
longer f bytes None is = tt
longer f bytes (Some s) is = subst IsUtf8 (append_assoc f bytes s) is

-- bytes between two texts
between : (f bytes xs : List ℕ) → IsUtf8 f → IsUtf8 bytes → IsUtf8 xs → IsUtf8 ((f ++ bytes) ++ xs)
between f bytes xs first middle last = IsUtf8-append (f ++ bytes) xs (IsUtf8-append f bytes first middle) last

low_hex : (x : ℕ) → is_digit x 16 ≡ true → x < 128
low_hex x is = grind (arith, nat_tests)

record IsUnit (a b c d u : ℕ) : Type 0 where
  low : u < 65536
  first : a < 128
  second : b < 128
  third : c < 128
  fourth : d < 128

unit_if : (a b c d u : ℕ) (t : Bool) → t ≡ (is_digit a 16 && is_digit b 16 && is_digit c 16 && is_digit d 16)
    → cond t (Some (digit_value a * 4096 + digit_value b * 256 + digit_value c * 16 + digit_value d)) None ≡ Some u → IsUnit a b c d u
unit_if a b c d u false is given = absurd cc
unit_if a b c d u true is given =
    let p = and_parts (is_digit a 16 && is_digit b 16 && is_digit c 16) (is_digit d 16) (sym is) in
    let q = and_parts (is_digit a 16 && is_digit b 16) (is_digit c 16) p.0 in
    let r = and_parts (is_digit a 16) (is_digit b 16) q.0 in
    let same : digit_value a * 4096 + digit_value b * 256 + digit_value c * 16 + digit_value d ≡ u = cc in
    let wa : digit_value a < 16 = grind (arith, nat_tests) in
    let wb : digit_value b < 16 = grind (arith, nat_tests) in
    let wc : digit_value c < 16 = grind (arith, nat_tests) in
    let wd : digit_value d < 16 = grind (arith, nat_tests) in
    record { low = omega (arith, same, wa, wb, wc, wd); first = low_hex a r.0; second = low_hex b r.1; third = low_hex c q.1; fourth = low_hex d p.1 }

unit_is : (a b c d u : ℕ) → code_unit a b c d ≡ Some u → IsUnit a b c d u
unfolding code_unit
unit_is a b c d u given = unit_if a b c d u _ refl given

four : (a b c d : ℕ) (xs : List ℕ) (u : ℕ) → IsUnit a b c d u → IsUtf8 (a ∷ b ∷ c ∷ d ∷ xs) → IsUtf8 xs
four a b c d xs u is text =
    (cut [] d xs is.fourth (cut [] c (d ∷ xs) is.third (cut [] b (c ∷ d ∷ xs) is.second (cut [] a (b ∷ c ∷ d ∷ xs) is.first text).1).1).1).1

-- an escape of one byte
record IsShort (x c : ℕ) : Type 0 where
  escape : x < 128
  byte : c < 128

short_is : (x c : ℕ) → short_escape x ≡ Some c → IsShort x c
unfolding short_escape
short_is x c given = record { escape = grind (arith, nat_tests); byte = grind (arith, nat_tests) }

scalar_unit : (u : ℕ) → u < 65536 → is_high_surrogate u ≡ false → is_low_surrogate u ≡ false → IsScalar u
scalar_unit u small high low = grind (arith, nat_tests)

scalar_pair : (h l : ℕ) → is_high_surrogate h ≡ true → is_low_surrogate l ≡ true → IsScalar (surrogate_pair h l)
scalar_pair h l high low = grind (arith, nat_tests)

low_of : (x n : ℕ) → (x == n) ≡ true → n < 128 → x < 128
low_of x n same small = omega (arith, eqb-true x n same, small)

ascii : (x : ℕ) → x < 128 → IsUtf8 (x ∷ [])
ascii x small = IsUtf8-are_ascii (x ∷ []) (grind (arith, nat_tests))

pub content-utf8 : (w : Within) (f xs : List ℕ) → IsLeft w f xs → IsFound f (content w xs)
unfolding content
content-utf8 plain f [] is = tt
content-utf8 plain f (x ∷ xs) is =
    both f (x == 34) _ _ (λ quoted. subst IsUtf8 (sym (append-nil f)) (cut f x xs (low_of x 34 quoted (omega arith)) is).0)
    (λ no_quote. both f (x == 92) _ _ (λ slash. content-utf8 after_backslash f xs (cut f x xs (low_of x 92 slash (omega arith)) is))
    (λ no_slash. both f (nat_lt x 32) _ _ (λ control. tt)
    (λ other. longer f (x ∷ []) _ (content-utf8 plain (f ++ x ∷ []) xs (subst IsUtf8 (seam f x xs) is)))))
content-utf8 after_backslash f [] is = tt
content-utf8 after_backslash f (x ∷ xs) is =
    both f (x == 117) _ _ (λ u. content-utf8 after_u f xs (is.0, (cut [] x xs (low_of x 117 u (omega arith)) is.1).1))
    (λ no_u. then f _ (short_escape x) (λ c there. longer f (c ∷ []) _ (content-utf8 plain (f ++ c ∷ []) xs
    (between f (c ∷ []) xs is.0 (ascii c (short_is x c there).byte) (cut [] x xs (short_is x c there).escape is.1).1))))
content-utf8 after_u f [] is = tt
content-utf8 after_u f (a ∷ []) is = tt
content-utf8 after_u f (a ∷ b ∷ []) is = tt
content-utf8 after_u f (a ∷ b ∷ c ∷ []) is = tt
content-utf8 after_u f (a ∷ b ∷ c ∷ d ∷ xs) is =
    then f _ (code_unit a b c d) (λ u there. both f (is_high_surrogate u) _ _
    (λ high. content-utf8 (after_high u) f xs (high, is.0, four a b c d xs u (unit_is a b c d u there) is.1))
    (λ no_high. both f (is_low_surrogate u) _ _ (λ low. tt) (λ no_low. longer f (encode_utf8 u) _ (content-utf8 plain (f ++ encode_utf8 u) xs
    (between f (encode_utf8 u) xs is.0 (IsUtf8-encode u (scalar_unit u (unit_is a b c d u there).low no_high no_low)) (four a b c d xs u (unit_is a b c d u there) is.1))))))
content-utf8 (after_high h) f [] is = tt
content-utf8 (after_high h) f (s ∷ []) is = tt
content-utf8 (after_high h) f (s ∷ u ∷ []) is = tt
content-utf8 (after_high h) f (s ∷ u ∷ a ∷ []) is = tt
content-utf8 (after_high h) f (s ∷ u ∷ a ∷ b ∷ []) is = tt
content-utf8 (after_high h) f (s ∷ u ∷ a ∷ b ∷ c ∷ []) is = tt
content-utf8 (after_high h) f (s ∷ u ∷ a ∷ b ∷ c ∷ d ∷ xs) is =
    both f ((s == 92) && (u == 117)) _ _ (λ slashed. then f _ (code_unit a b c d) (λ l there. both f (is_low_surrogate l) _ _
    (λ low. longer f (encode_utf8 (surrogate_pair h l)) _ (content-utf8 plain (f ++ encode_utf8 (surrogate_pair h l)) xs
    (between f (encode_utf8 (surrogate_pair h l)) xs is.1 (IsUtf8-encode (surrogate_pair h l) (scalar_pair h l is.0 low))
    (four a b c d xs l (unit_is a b c d l there)
    (cut [] u (a ∷ b ∷ c ∷ d ∷ xs) (low_of u 117 (and_parts (s == 92) (u == 117) slashed).1 (omega arith))
    (cut [] s (u ∷ a ∷ b ∷ c ∷ d ∷ xs) (low_of s 92 (and_parts (s == 92) (u == 117) slashed).0 (omega arith)) is.2).1).1))))
    (λ no_low. tt))) (λ otherwise. tt)
