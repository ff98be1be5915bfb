-- What stands behind a printed text and is no lexeme changes no token of it.
use Rattle.std.proofs.Common.{◌≡◌, ℕ, Bool, true, false, cond, ◌&&◌, List, [], ◌∷◌, ◌++◌, refl, sym, ap, ap₂, ◌∙◌, append_assoc, append-nil}
use Rattle.json.specs.Token.{Token, begin_object, end_object, begin_array, end_array, key, string, number, boolean, null, bad}
use Rattle.json.specs.Word.{ends_word, word}
use Rattle.json.specs.Lex.{Lexeme, token, comma, colon, string_token, lex, between, fresh, punctuate, tokens}
use Rattle.json.specs.Print.{escape, quoted, token_text, begins, ends, separator, print_from, print, IsPrintable, ArePrintable}
use Rattle.json.proofs.Printed.Strings.{content-escape, lex-escape}
use Rattle.json.proofs.Printed.Numbers.{lex-number, in_word-ended}

-- a tail that is no lexeme, behind which a word has ended
pub record IsBlank (tail : List ℕ) : Type 0 where
  pub none : lex between tail ≡ []
  pub ended : ends_word tail ≡ true

abbrev token_lexemes : Token → List Lexeme
token_lexemes begin_object = token begin_object ∷ []
token_lexemes end_object = token end_object ∷ []
token_lexemes begin_array = token begin_array ∷ []
token_lexemes end_array = token end_array ∷ []
token_lexemes (key s) = token (string s) ∷ colon ∷ []
token_lexemes (string s) = token (string s) ∷ []
token_lexemes (number s) = token (number s) ∷ []
token_lexemes (boolean b) = token (boolean b) ∷ []
token_lexemes null = token null ∷ []
token_lexemes bad = []

lex-quoted : (s r : List ℕ) → lex between (quoted s ++ r) ≡ token (string s) ∷ lex between r
unfolding lex
lex-quoted s r =
    let e = append_assoc (escape s) (34 ∷ []) r in
    ap (λ l. lex between (34 ∷ l)) e ∙ ap₂ (λ o l. token (string_token o) ∷ l) (content-escape s r) (lex-escape s r)

lex-text : (t : Token) (r : List ℕ) → IsPrintable t → (ends t ≡ true → ends_word r ≡ true) → lex between (token_text t ++ r) ≡ token_lexemes t ++ lex between r
unfolding lex word
lex-text begin_object r h ended = refl
lex-text end_object r h ended = refl
lex-text begin_array r h ended = refl
lex-text end_array r h ended = refl
lex-text (key s) r h ended = ap (lex between) (append_assoc (quoted s) (58 ∷ []) r) ∙ lex-quoted s (58 ∷ r)
lex-text (string s) r h ended = lex-quoted s r
lex-text (number s) r h ended = lex-number s r h (ended refl)
lex-text (boolean true) r h ended = ap₂ (λ b l. token (cond b (boolean true) bad) ∷ l) (ended refl) (in_word-ended r (ended refl))
lex-text (boolean false) r h ended = ap₂ (λ b l. token (cond b (boolean false) bad) ∷ l) (ended refl) (in_word-ended r (ended refl))
lex-text null r h ended = ap₂ (λ b l. token (cond b null bad) ∷ l) (ended refl) (in_word-ended r (ended refl))
lex-text bad r h ended = absurd h

lex-comma : (b : Bool) (r : List ℕ) → lex between (cond b (44 ∷ []) [] ++ r) ≡ cond b (comma ∷ []) [] ++ lex between r
unfolding lex
lex-comma true r = refl
lex-comma false r = refl

-- after a value stands a comma, a closing bracket or the tail
value_ends : (ts : List Token) (tail : List ℕ) → ends_word tail ≡ true → ends_word (print_from true ts ++ tail) ≡ true
unfolding print_from
value_ends [] tail h = h
value_ends (begin_object ∷ ts) tail h = refl
value_ends (end_object ∷ ts) tail h = refl
value_ends (begin_array ∷ ts) tail h = refl
value_ends (end_array ∷ ts) tail h = refl
value_ends (key s ∷ ts) tail h = refl
value_ends (string s ∷ ts) tail h = refl
value_ends (number s ∷ ts) tail h = refl
value_ends (boolean b ∷ ts) tail h = refl
value_ends (null ∷ ts) tail h = refl
value_ends (bad ∷ ts) tail h = refl

-- the lexemes of a printed text, whatever blank stands behind it
abbrev lexemes : Bool → List Token → List Lexeme
lexemes c [] = []
lexemes c (t ∷ ts) = cond (c && begins t) (comma ∷ []) [] ++ (token_lexemes t ++ lexemes (ends t) ts)

lex-printed : (c : Bool) (ts : List Token) (tail : List ℕ) → ArePrintable ts → IsBlank tail → lex between (print_from c ts ++ tail) ≡ lexemes c ts
unfolding lex print_from ArePrintable
lex-printed c [] tail h blank = blank.none
lex-printed c (t ∷ ts) tail h blank =
    let rest = print_from (ends t) ts in
    ap (lex between) (append_assoc (separator c t) (token_text t ++ rest) tail)
    ∙ ap (λ (l : List ℕ). lex between (separator c t ++ l)) (append_assoc (token_text t) rest tail)
    ∙ lex-comma (c && begins t) (token_text t ++ (rest ++ tail))
    ∙ ap (λ (l : List Lexeme). cond (c && begins t) (comma ∷ []) [] ++ l)
    (lex-text t (rest ++ tail) h.0 (λ e. ap (λ (b : Bool). ends_word (print_from b ts ++ tail)) e ∙ value_ends ts tail blank.ended)
    ∙ ap (λ (l : List Lexeme). token_lexemes t ++ l) (lex-printed (ends t) ts tail h.1 blank))

no-blank : IsBlank []
unfolding lex
no-blank = record { none = refl; ended = refl }

line-blank : IsBlank (10 ∷ [])
unfolding lex
line-blank = record { none = refl; ended = refl }

-- a line has the tokens of its text
pub tokens-line : (ts : List Token) → ArePrintable ts → tokens (print ts ++ 10 ∷ []) ≡ tokens (print ts)
tokens-line ts h =
    ap (punctuate fresh) (lex-printed false ts (10 ∷ []) h line-blank)
    ∙ sym (ap (λ (l : List ℕ). punctuate fresh (lex between l)) (sym (append-nil (print ts))) ∙ ap (punctuate fresh) (lex-printed false ts [] h no-blank))
