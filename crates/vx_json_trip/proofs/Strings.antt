-- What is read of a text in UTF-8 has its strings in UTF-8.
use Rattle.std.proofs.Common.{◌≡◌, ℕ, zero, suc, ◌-◌, Bool, true, false, cond, ◌&&◌, ◌==◌, nat_eq, List, [], ◌∷◌, ◌++◌, length, take, drop, Option, Some, None, option_and_then, refl, subst, arith, IsUtf8}
use Rattle.std.proofs.lemmas.Bool.{eqb-true}
use Rattle.std.specs.Prelude.{⊤, option_map, IfSome}
use Rattle.std.specs.List.{AllByRecursion, starts_with}
use Rattle.std.specs.Cmp.Lexicographic.{slice_cmp}
use Rattle.std.specs.Ordering.{nat_cmp, match_ordering}
use Rattle.std.specs.declared.cmp.Ordering.{Ordering}
use Rattle.std.specs.declared.cmp.Ordering.TheVariants.{Less, Equal, Greater}
use Rattle.json.specs.Ascii as ascii
use Rattle.json.specs.Token.{Token}
use Rattle.json.specs.Text.{content, plain}
use Rattle.json.specs.Word.{is_operator, is_space, word, literal, number_before, after_number, ends_word, head}
use Rattle.json.specs.Lex.{Lexeme, token, comma, colon, Class, quote, backslash, operator, space, other, class, operator_lexeme, string_token, Mode, between, in_word, in_string, in_escape, lex_byte, lex, Place, fresh, after_value, after_comma, after_key, begins_colon, if_allowed, place_token, may_begin, may_close, punctuate, tokens}
use Rattle.json.specs.Json as json
use Rattle.json.specs.Json.{Json, Parse, parse_map, after_end_array, read_key, items_step, members_step, value_with}
use Rattle.serde_json.specs.Data.{Num, Data, number, array, object, item, Members, no_members, member, put}
use Rattle.serde_json.specs.Read.{number_of, of_json, of_items, of_members, max_depth}
use Rattle.vx_json_trip.specs.Strings.{IsUtf8Value, AreUtf8Items, AreUtf8Members, StringsAreUtf8}
use Rattle.vx_json_trip.proofs.Characters.{cut, seam, IsFound, content-utf8}

-- ---- lexemes and tokens

abbrev IsUtf8Token : Token → Type 0
IsUtf8Token Token.begin_object = ⊤
IsUtf8Token Token.end_object = ⊤
IsUtf8Token Token.begin_array = ⊤
IsUtf8Token Token.end_array = ⊤
IsUtf8Token (Token.key s) = IsUtf8 s
IsUtf8Token (Token.string s) = IsUtf8 s
IsUtf8Token (Token.number s) = ⊤
IsUtf8Token (Token.boolean b) = ⊤
IsUtf8Token Token.null = ⊤
IsUtf8Token Token.bad = ⊤

abbrev IsUtf8Lexeme : Lexeme → Type 0
IsUtf8Lexeme (token t) = IsUtf8Token t
IsUtf8Lexeme comma = ⊤
IsUtf8Lexeme colon = ⊤

abbrev AreUtf8Tokens : List Token → Type 0
AreUtf8Tokens ts = AllByRecursion IsUtf8Token ts

abbrev AreUtf8Lexemes : List Lexeme → Type 0
AreUtf8Lexemes ls = AllByRecursion IsUtf8Lexeme ls

number-utf8 : (t : List ℕ) (o : Option (List ℕ)) → IsUtf8Token (number_before t o)
number-utf8 t None = tt
number-utf8 t (Some rest) = by (ends_word rest)
  where
    by : (b : Bool) → IsUtf8Token (cond b (Token.number (take (length t - length rest) t)) Token.bad)
    by true = tt
    by false = tt

literal-utf8 : (b : Bool) (t : Token) → IsUtf8Token t → IsUtf8Token (cond b t Token.bad)
literal-utf8 true t is = is
literal-utf8 false t is = tt

word-utf8 : (t : List ℕ) → IsUtf8Token (word t)
unfolding word
word-utf8 t =
    by (head t == 116) (head t == 102) (head t == 110)
  where
    by : (a b c : Bool)
        → IsUtf8Token (cond a (literal ascii.true_text (Token.boolean true) t) (cond b (literal ascii.false_text (Token.boolean false) t)
        (cond c (literal ascii.null_text Token.null t) (number_before t (after_number t)))))
    by true b c = literal-utf8 (starts_with nat_eq t ascii.true_text && ends_word (drop (length ascii.true_text) t)) (Token.boolean true) tt
    by false true c = literal-utf8 (starts_with nat_eq t ascii.false_text && ends_word (drop (length ascii.false_text) t)) (Token.boolean false) tt
    by false false true = literal-utf8 (starts_with nat_eq t ascii.null_text && ends_word (drop (length ascii.null_text) t)) Token.null tt
    by false false false = number-utf8 t (after_number t)

operator-utf8 : (x : ℕ) → IsUtf8Lexeme (operator_lexeme x)
operator-utf8 x =
    by (x == ascii.open_brace) (x == ascii.close_brace) (x == ascii.open_bracket) (x == ascii.close_bracket) (x == ascii.comma)
  where
    by : (a b c d e : Bool)
        → IsUtf8Lexeme (cond a (token Token.begin_object) (cond b (token Token.end_object) (cond c (token Token.begin_array) (cond d (token Token.end_array) (cond e comma colon)))))
    by true b c d e = tt
    by false true c d e = tt
    by false false true d e = tt
    by false false false true e = tt
    by false false false false true = tt
    by false false false false false = tt

string-utf8 : (o : Option (List ℕ)) → IsFound [] o → IsUtf8Token (string_token o)
string-utf8 None is = tt
string-utf8 (Some s) is = is

-- a lexeme that begins with a byte of some class, where a quote has a text in UTF-8 behind it
byte-utf8 : (m : Mode) (c : Class) (x : ℕ) (xs : List ℕ) → (c ≡ quote → IsUtf8 xs) → ((next : Mode) → AreUtf8Lexemes (lex next xs))
    → AreUtf8Lexemes (lex_byte m c x xs (λ next. lex next xs))
byte-utf8 between quote x xs text rest = (string-utf8 (content plain xs) (content-utf8 plain [] xs (text refl)), rest in_string)
byte-utf8 between backslash x xs text rest = (tt, rest in_word)
byte-utf8 between operator x xs text rest = (operator-utf8 x, rest between)
byte-utf8 between space x xs text rest = rest between
byte-utf8 between other x xs text rest = (word-utf8 (x ∷ xs), rest in_word)
byte-utf8 in_word quote x xs text rest = rest in_word
byte-utf8 in_word backslash x xs text rest = rest in_word
byte-utf8 in_word operator x xs text rest = (operator-utf8 x, rest between)
byte-utf8 in_word space x xs text rest = rest between
byte-utf8 in_word other x xs text rest = rest in_word
byte-utf8 in_string quote x xs text rest = rest between
byte-utf8 in_string backslash x xs text rest = rest in_escape
byte-utf8 in_string operator x xs text rest = rest in_string
byte-utf8 in_string space x xs text rest = rest in_string
byte-utf8 in_string other x xs text rest = rest in_string
byte-utf8 in_escape c x xs text rest = rest in_string

is_quote : (x : ℕ) → class x ≡ quote → x ≡ 34
is_quote x e = by (x == 34) (x == 92) (is_operator x) (is_space x) (eqb-true x 34) e
  where
    by : (q b o s : Bool) → (q ≡ true → x ≡ 34) → cond q quote (cond b backslash (cond o operator (cond s space other))) ≡ quote → x ≡ 34
    by true b o s same given = same refl
    by false true o s same given = absurd cc
    by false false true s same given = absurd cc
    by false false false true same given = absurd cc
    by false false false false same given = absurd cc

lex-utf8 : (m : Mode) (f xs : List ℕ) → IsUtf8 (f ++ xs) → AreUtf8Lexemes (lex m xs)
unfolding lex
lex-utf8 m f [] text = tt
lex-utf8 m f (x ∷ xs) text =
    byte-utf8 m (class x) x xs (λ quoted. (cut f x xs (omega (arith, is_quote x quoted)) text).1)
    (λ next. lex-utf8 next (f ++ x ∷ []) xs (subst IsUtf8 (seam f x xs) text))

allowed : (b : Bool) (t : Token) (k : Place → List Token) (next : Place) → IsUtf8Token t → ((p : Place) → AreUtf8Tokens (k p)) → AreUtf8Tokens (if_allowed b t k next)
allowed true t k next is rest = (is, rest next)
allowed false t k next is rest = (tt, tt)

place-utf8 : (p : Place) (t : Token) (b : Bool) (k : Place → List Token) → IsUtf8Token t → ((next : Place) → AreUtf8Tokens (k next)) → AreUtf8Tokens (place_token p t b k)
place-utf8 p Token.begin_object b k is rest = allowed (may_begin p) _ k _ tt rest
place-utf8 p Token.end_object b k is rest = allowed (may_close p) _ k _ tt rest
place-utf8 p Token.begin_array b k is rest = allowed (may_begin p) _ k _ tt rest
place-utf8 p Token.end_array b k is rest = allowed (may_close p) _ k _ tt rest
place-utf8 p (Token.key s) b k is rest = (tt, tt)
place-utf8 p (Token.string s) true k is rest = allowed (may_begin p) (Token.key s) k _ is rest
place-utf8 p (Token.string s) false k is rest = allowed (may_begin p) (Token.string s) k _ is rest
place-utf8 p (Token.number s) b k is rest = allowed (may_begin p) (Token.number s) k _ tt rest
place-utf8 p (Token.boolean c) b k is rest = allowed (may_begin p) (Token.boolean c) k _ tt rest
place-utf8 p Token.null b k is rest = allowed (may_begin p) Token.null k _ tt rest
place-utf8 p Token.bad b k is rest = (tt, tt)

punctuate-utf8 : (p : Place) (ls : List Lexeme) → AreUtf8Lexemes ls → AreUtf8Tokens (punctuate p ls)
unfolding punctuate
punctuate-utf8 fresh [] are = tt
punctuate-utf8 after_value [] are = tt
punctuate-utf8 after_comma [] are = (tt, tt)
punctuate-utf8 after_key [] are = (tt, tt)
punctuate-utf8 fresh (token t ∷ ls) are = place-utf8 fresh t (begins_colon ls) _ are.0 (λ next. punctuate-utf8 next ls are.1)
punctuate-utf8 after_value (token t ∷ ls) are = place-utf8 after_value t (begins_colon ls) _ are.0 (λ next. punctuate-utf8 next ls are.1)
punctuate-utf8 after_comma (token t ∷ ls) are = place-utf8 after_comma t (begins_colon ls) _ are.0 (λ next. punctuate-utf8 next ls are.1)
punctuate-utf8 after_key (token t ∷ ls) are = place-utf8 after_key t (begins_colon ls) _ are.0 (λ next. punctuate-utf8 next ls are.1)
punctuate-utf8 fresh (comma ∷ ls) are = (tt, tt)
punctuate-utf8 after_value (comma ∷ ls) are = punctuate-utf8 after_comma ls are.1
punctuate-utf8 after_comma (comma ∷ ls) are = (tt, tt)
punctuate-utf8 after_key (comma ∷ ls) are = (tt, tt)
punctuate-utf8 fresh (colon ∷ ls) are = (tt, tt)
punctuate-utf8 after_value (colon ∷ ls) are = (tt, tt)
punctuate-utf8 after_comma (colon ∷ ls) are = (tt, tt)
punctuate-utf8 after_key (colon ∷ ls) are = punctuate-utf8 fresh ls are.1

-- ---- values over tokens

abbrev mutual
  IsUtf8Json : Json → Type 0
  IsUtf8Json json.null = ⊤
  IsUtf8Json (json.boolean b) = ⊤
  IsUtf8Json (json.number s) = ⊤
  IsUtf8Json (json.string s) = IsUtf8 s
  IsUtf8Json (json.array js) = AreUtf8Elements js
  IsUtf8Json (json.object ms) = AreUtf8Entries ms

  AreUtf8Elements : json.Items → Type 0
  AreUtf8Elements json.no_items = ⊤
  AreUtf8Elements (json.item j js) = IsUtf8Json j × AreUtf8Elements js

  AreUtf8Entries : json.Members → Type 0
  AreUtf8Entries json.no_members = ⊤
  AreUtf8Entries (json.member k j ms) = IsUtf8 k × IsUtf8Json j × AreUtf8Entries ms

-- what is parsed is so, and the tokens behind it
abbrev IsParsed : {A : Type 0} → (A → Type 0) → Option (A × List Token) → Type 0
IsParsed P None = ⊤
IsParsed P (Some p) = P p.0 × AreUtf8Tokens p.1

abbrev Parses : {A : Type 0} → (A → Type 0) → Parse A → Type 0
Parses P parse = (ts : List Token) → AreUtf8Tokens ts → IsParsed P (parse ts)

mapped : {A B : Type 0} (P : A → Type 0) (Q : B → Type 0) (f : A → B) → ((a : A) → P a → Q (f a)) → (o : Option (A × List Token)) → IsParsed P o → IsParsed Q (parse_map f o)
mapped P Q f to None is = tt
mapped P Q f to (Some p) is = (to p.0 is.0, is.1)

and_more : {B : Type 0} (Q : B → Type 0) (h : Json → B → B) → ((j : Json) (b : B) → IsUtf8Json j → Q b → Q (h j b)) → (more : Parse B) → Parses Q more
    → (o : Option (Json × List Token)) → IsParsed IsUtf8Json o → IsParsed Q (option_and_then (λ q. parse_map (h q.0) (more q.1)) o)
and_more Q h to more parses None is = tt
and_more Q h to more parses (Some q) is = mapped Q Q (h q.0) (λ b. to q.0 b is.0) (more q.1) (parses q.1 is.1)

-- what stands behind a bracket, and behind a key
behind-array : (ts : List Token) → AreUtf8Tokens ts → IfSome (after_end_array ts) AreUtf8Tokens
behind-array [] are = tt
behind-array (Token.begin_object ∷ ts) are = tt
behind-array (Token.end_object ∷ ts) are = tt
behind-array (Token.begin_array ∷ ts) are = tt
behind-array (Token.end_array ∷ ts) are = are.1
behind-array (Token.key s ∷ ts) are = tt
behind-array (Token.string s ∷ ts) are = tt
behind-array (Token.number s ∷ ts) are = tt
behind-array (Token.boolean b ∷ ts) are = tt
behind-array (Token.null ∷ ts) are = tt
behind-array (Token.bad ∷ ts) are = tt

key-utf8 : (ts : List Token) → AreUtf8Tokens ts → IsParsed (λ (k : Option (List ℕ)). IfSome k IsUtf8) (read_key ts)
key-utf8 [] are = tt
key-utf8 (Token.begin_object ∷ ts) are = tt
key-utf8 (Token.end_object ∷ ts) are = (tt, are.1)
key-utf8 (Token.begin_array ∷ ts) are = tt
key-utf8 (Token.end_array ∷ ts) are = tt
key-utf8 (Token.key s ∷ ts) are = are
key-utf8 (Token.string s ∷ ts) are = tt
key-utf8 (Token.number s ∷ ts) are = tt
key-utf8 (Token.boolean b ∷ ts) are = tt
key-utf8 (Token.null ∷ ts) are = tt
key-utf8 (Token.bad ∷ ts) are = tt

module _ (p : Parse Json) (parses : Parses IsUtf8Json p) where
  item_turn : (more : Parse json.Items) → Parses AreUtf8Elements more → (ts : List Token) (o : Option (List Token)) → AreUtf8Tokens ts → IfSome o AreUtf8Tokens
      → IsParsed AreUtf8Elements (items_step p more ts o)
  item_turn more again ts (Some rest) are behind = (tt, behind)
  item_turn more again ts None are behind = and_more AreUtf8Elements json.item (λ j js is all. (is, all)) more again (p ts) (parses ts are)

  items-utf8 : (n : ℕ) → Parses AreUtf8Elements (json.items p n)
  unfolding json.items
  items-utf8 zero ts are = tt
  items-utf8 (suc n) ts are = item_turn (json.items p n) (items-utf8 n) ts (after_end_array ts) are (behind-array ts are)

  member_turn : (more : Parse json.Members) → Parses AreUtf8Entries more → (o : Option (Option (List ℕ) × List Token)) → IsParsed (λ (k : Option (List ℕ)). IfSome k IsUtf8) o
      → IsParsed AreUtf8Entries (option_and_then (λ q. members_step p more q.0 q.1) o)
  member_turn more again None is = tt
  member_turn more again (Some (None, ts)) is = (tt, is.1)
  member_turn more again (Some (Some k, ts)) is =
      and_more AreUtf8Entries (json.member k) (λ j ms value all. (is.0, value, all)) more again (p ts) (parses ts is.1)

  members-utf8 : (n : ℕ) → Parses AreUtf8Entries (json.members p n)
  unfolding json.members
  members-utf8 zero ts are = tt
  members-utf8 (suc n) ts are = member_turn (json.members p n) (members-utf8 n) (read_key ts) (key-utf8 ts are)

one_level : (a : Parse json.Items) (o : Parse json.Members) → Parses AreUtf8Elements a → Parses AreUtf8Entries o → Parses IsUtf8Json (value_with a o)
one_level a o items members [] are = tt
one_level a o items members (Token.begin_object ∷ ts) are = mapped AreUtf8Entries IsUtf8Json json.object (λ ms all. all) (o ts) (members ts are.1)
one_level a o items members (Token.end_object ∷ ts) are = tt
one_level a o items members (Token.begin_array ∷ ts) are = mapped AreUtf8Elements IsUtf8Json json.array (λ js all. all) (a ts) (items ts are.1)
one_level a o items members (Token.end_array ∷ ts) are = tt
one_level a o items members (Token.key s ∷ ts) are = tt
one_level a o items members (Token.string s ∷ ts) are = are
one_level a o items members (Token.number s ∷ ts) are = (tt, are.1)
one_level a o items members (Token.boolean b ∷ ts) are = (tt, are.1)
one_level a o items members (Token.null ∷ ts) are = (tt, are.1)
one_level a o items members (Token.bad ∷ ts) are = tt

value-utf8 : (depth : ℕ) → Parses IsUtf8Json (json.value depth)
unfolding json.value
value-utf8 zero = one_level (λ ts. None) (λ ts. None) (λ ts are. tt) (λ ts are. tt)
value-utf8 (suc depth) =
    one_level (λ ts. json.items (json.value depth) (length ts) ts) (λ ts. json.members (json.value depth) (length ts) ts)
    (λ ts are. items-utf8 (json.value depth) (value-utf8 depth) (length ts) ts are)
    (λ ts are. members-utf8 (json.value depth) (value-utf8 depth) (length ts) ts are)

-- ---- values with their members in order

put-utf8 : (k : List ℕ) (d : Data) (ms : Members) → IsUtf8 k → IsUtf8Value d → AreUtf8Members ms → AreUtf8Members (put k d ms)
put-utf8 k d no_members name is all = (name, is, tt)
put-utf8 k d (member l e ms) name is all = by (slice_cmp nat_cmp k l) (put-utf8 k d ms name is all.2)
  where
    by : (o : Ordering) → AreUtf8Members (put k d ms) → AreUtf8Members (match_ordering o (member k d (member l e ms)) (member l d ms) (member l e (put k d ms)))
    by Less behind = (name, is, all)
    by Equal behind = (all.0, is, all.2)
    by Greater behind = (all.0, all.1, behind)

made : {A B : Type 0} (P : A → Type 0) (Q : B → Type 0) (f : A → B) (o : Option A) → ((a : A) → P a → Q (f a)) → IfSome o P → IfSome (option_map f o) Q
made P Q f None to is = tt
made P Q f (Some a) to is = to a is

then : {A B : Type 0} (P : A → Type 0) (Q : B → Type 0) (f : A → Option B) (o : Option A) → ((a : A) → P a → IfSome (f a) Q) → IfSome o P → IfSome (option_and_then f o) Q
then P Q f None to is = tt
then P Q f (Some a) to is = to a is

any : {A : Type 0} (o : Option A) → IfSome o (λ a. ⊤)
any None = tt
any (Some a) = tt

mutual
  of_json-utf8 : (j : Json) → IsUtf8Json j → IfSome (of_json j) IsUtf8Value
  of_json-utf8 json.null is = tt
  of_json-utf8 (json.boolean b) is = tt
  of_json-utf8 (json.number s) is = made (λ (n : Num). ⊤) IsUtf8Value number (number_of s) (λ n any. tt) (any (number_of s))
  of_json-utf8 (json.string s) is = is
  of_json-utf8 (json.array js) is = made AreUtf8Items IsUtf8Value array (of_items js) (λ ds all. all) (of_items-utf8 js is)
  of_json-utf8 (json.object ms) is = made AreUtf8Members IsUtf8Value object (of_members ms no_members) (λ ds all. all) (of_members-utf8 ms no_members is tt)

  of_items-utf8 : (js : json.Items) → AreUtf8Elements js → IfSome (of_items js) AreUtf8Items
  of_items-utf8 json.no_items all = tt
  of_items-utf8 (json.item j js) all =
      then IsUtf8Value AreUtf8Items (λ d. option_map (item d) (of_items js)) (of_json j)
      (λ d is. made AreUtf8Items AreUtf8Items (item d) (of_items js) (λ ds rest. (is, rest)) (of_items-utf8 js all.1)) (of_json-utf8 j all.0)

  of_members-utf8 : (ms : json.Members) (found : Members) → AreUtf8Entries ms → AreUtf8Members found → IfSome (of_members ms found) AreUtf8Members
  of_members-utf8 json.no_members found all before = before
  of_members-utf8 (json.member k j ms) found all before =
      then IsUtf8Value AreUtf8Members (λ d. of_members ms (put k d found)) (of_json j)
      (λ d is. of_members-utf8 ms (put k d found) all.2 (put-utf8 k d found all.0 is before)) (of_json-utf8 j all.1)

last-utf8 : (j : Json) (ts : List Token) → IsUtf8Json j → IfSome (json.if_last j ts) IsUtf8Json
last-utf8 j [] is = is
last-utf8 j (t ∷ ts) is = tt

pub strings-utf8 : StringsAreUtf8
strings-utf8 text d utf8 given =
    let parsed = value-utf8 max_depth (tokens text) (punctuate-utf8 fresh (lex between text) (lex-utf8 between [] text utf8)) in
    let whole = by (json.value max_depth (tokens text)) parsed in
    subst (λ (o : Option Data). IfSome o IsUtf8Value) given
    (then IsUtf8Json IsUtf8Value of_json (option_and_then (λ p. json.if_last p.0 p.1) (json.value max_depth (tokens text))) of_json-utf8 whole)
  where
    by : (o : Option (Json × List Token)) → IsParsed IsUtf8Json o → IfSome (option_and_then (λ p. json.if_last p.0 p.1) o) IsUtf8Json
    by None is = tt
    by (Some p) is = last-utf8 p.0 p.1 is.0
