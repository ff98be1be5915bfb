-- Words of a name as a part of a text: characters in UTF-8, none of them a control character.
use Rattle.std.proofs.Common.{◌≡◌, ℕ, zero, suc, ◌+◌, ◌-◌, ◌≤◌, ◌<◌, Bool, true, false, cond, List, [], ◌∷◌, ◌++◌, length, refl, ap, sym, subst, ◌∙◌, inl, inr, arith, length-append, append-nil, append_assoc}
use Rattle.std.specs.Prelude.{Result, Ok, Err, ◌⊎◌, ◌&&◌, ◌||◌, ◌==◌, nat_lt}
use Rattle.std.specs.List.{list_all}
use Rattle.std.specs.Str.{continuation_len, IsUtf8}
use Rattle.std.specs.Str.Lossy.{second_byte_min, second_byte_max}
use Rattle.std.proofs.Math.Utf8.{encode, encodes, scalar, scalars}
use Rattle.std.proofs.lemmas.Bool.{cond_both, le-ltb, lt-ltb, ltb-true, ltb-false, eqb-true}
use Rattle.vx_base.specs.Results.{◌>>=◌}
use Rattle.vx_base.proofs.Results.{bind_ok}
use Rattle.vx_base.proofs.Booleans.{and-left, and-right, and-both}
use Rattle.vx_json.specs.Reading.{is_within}
use Rattle.vx_events.specs.Fits.{is_name_byte}
use Rattle.vx_records.specs.Parts.{Found, Read, found, stop, done, passed, each_in}
use Rattle.vx_records.specs.Characters.{is_lead, followers_in, character_in, next_place, words_in}
use Rattle.vx_records.proofs.Grammar.{Part, Splits, Begins, Both, Some_text, StopsAt, StopsAt-any, StopsAt-none, any, none, then_in, then_part, found_value, found_rest, Refused, at_first, at_next, bind_err}
use Rattle.vx_records.proofs.Steps.{Spelled, same_reader, same_texts}
use Rattle.vx_records.proofs.Runs.{list_all-append, list_all-front, list_all-back}
use Rattle.vx_records.proofs.Range.{within}
use Rattle.vx_records.proofs.Utf8Chars.{Follow, no_follow, follow, IsChar, char_of, IsScalarText, text_of_char}
use Rattle.vx_records.proofs.Items.{Items, no_more, one_more, Head, items_part}

-- a byte that passes a test
pub record Tested (t : ℕ → Bool) (b : ℕ) (u : List ℕ) : Type 0 where
  pub is : t b ≡ true
  pub text : u ≡ b ∷ []

pub test_in : (ℕ → Bool) → List ℕ → Read ℕ
test_in t [] = stop []
test_in t (b ∷ s) = cond (t b) (found b s) (stop (b ∷ s))

data Answer (t : ℕ → Bool) (b : ℕ) (s : List ℕ) (r : Read ℕ) : Type 0 where
  takes : t b ≡ true → r ≡ found b s → Answer t b s r
  leaves : t b ≡ false → r ≡ stop (b ∷ s) → Answer t b s r

answer_at : (t : ℕ → Bool) (b : ℕ) (s : List ℕ) (v : Bool) → t b ≡ v → Answer t b s (cond v (found b s) (stop (b ∷ s)))
answer_at t b s true e = takes e refl
answer_at t b s false e = leaves e refl

answer : (t : ℕ → Bool) (b : ℕ) (s : List ℕ) → Answer t b s (test_in t (b ∷ s))
unfolding test_in
answer t b s = answer_at t b s (t b) refl

module _ (t : ℕ → Bool) where
  test_whole : (b : ℕ) (u w : List ℕ) → Tested t b u → test_in t (u ++ w) ≡ found b w
  unfolding test_in
  test_whole b u w h = ap (λ (x : List ℕ). test_in t (x ++ w)) h.text ∙ ap (λ (v : Bool). cond v (found b w) (stop (b ∷ w))) h.is

  test_only_at : (b c : ℕ) (s w : List ℕ) → Answer t c s (test_in t (c ∷ s)) → test_in t (c ∷ s) ≡ found b w → Splits (Tested t) any (c ∷ s) b w
  test_only_at b c s w (takes h e) k =
      let value : c ≡ b = found_value e k in
      let rest : s ≡ w = found_rest e k in
      record { u = c ∷ []; is = record { is = subst (λ (n : ℕ). t n ≡ true) value h; text = ap (λ (n : ℕ). n ∷ []) value }; text = ap (λ (x : List ℕ). c ∷ x) rest; stops = StopsAt-any w }
  test_only_at b c s w (leaves h e) k = absurd cc

  test_only : (s : List ℕ) (b : ℕ) (w : List ℕ) → test_in t s ≡ found b w → Splits (Tested t) any s b w
  unfolding test_in
  test_only [] b w h = absurd (cc (h))
  test_only (c ∷ s) b w h = test_only_at b c s w (answer t c s) h

  test_err_at : (c : ℕ) (s : List ℕ) (left : ℕ) → Answer t c s (test_in t (c ∷ s)) → test_in t (c ∷ s) ≡ Err left → (left ≡ length (c ∷ s)) × (t c ≡ false)
  test_err_at c s left (takes h e) k = absurd cc
  test_err_at c s left (leaves h e) k = ((cc), h)

  test_left : (s : List ℕ) (left : ℕ) → test_in t s ≡ Err left → left ≡ length s
  unfolding test_in
  test_left [] left h = cc
  test_left (c ∷ s) left h = (test_err_at c s left (answer t c s) h).0

  test_most : (left : ℕ) (front rest more : List ℕ) (b : ℕ) → test_in t (front ++ rest) ≡ Err left → Tested t b (front ++ more) → left ≤ length rest
  test_most left [] rest more b h k = omega (arith, test_left rest left h)
  test_most left (c ∷ front) rest more b h k =
      let same : c ≡ b = cc (k.text) in
      let no : t c ≡ false = (test_err_at c (front ++ rest) left (answer t c (front ++ rest)) h).1 in
      let yes : t c ≡ true = subst (λ (n : ℕ). t n ≡ true) (sym same) k.is in
      absurd cc

  pub test_part : Part (Tested t) any (test_in t)
  test_part = record {
    whole = λ b u w h k. test_whole b u w h;
    only = λ s b w h. test_only s b w h;
    begun = λ s left h b u k. record { front = []; rest = s; more = u; value = b; is = k; text = refl; left_is = test_left s left h };
    most = λ s left h front rest more b e k. test_most left front rest more b (ap (test_in t) (sym e) ∙ h) k;
  }

-- further bytes of a character
abbrev pub Further : ℕ → ℕ → ℕ → Unit {0} → List ℕ → Type 0
Further count low high a u = Follow count low high u

no_further_to : (low high : ℕ) (a : Unit {0}) (u : List ℕ) → Further zero low high a u → u ≡ []
no_further_to low high a [] no_follow = refl
no_further_to low high a (b ∷ u) h = elim h [ ]

no_further : (low high : ℕ) → Part (Further zero low high) any (followers_in zero low high)
unfolding followers_in
no_further low high = record {
  whole = λ a u w h k. ap (λ (t : List ℕ). found done (t ++ w)) (no_further_to low high a u h);
  only = λ s a w h. record { u = []; is = no_follow; text = found_rest {r = found done s} refl h; stops = StopsAt-any w };
  begun = λ s left h a u k. absurd (cc (h));
  most = λ s left h front rest more a t k. absurd (cc (h));
}

further_cond : (count b : ℕ) (s : List ℕ) (v : Bool) → cond v (followers_in count 128 191 s) (stop (b ∷ s)) ≡ (cond v (found b s) (stop (b ∷ s)) >>= λ x. followers_in count 128 191 x.rest)
further_cond count b s true = refl
further_cond count b s false = refl

further_step : (count low high : ℕ) (s : List ℕ) → followers_in (suc count) low high s ≡ then_in (test_in (is_within low high)) (λ b n. followers_in count 128 191) s
unfolding followers_in test_in
further_step count low high [] = refl
further_step count low high (b ∷ s) = further_cond count b s (is_within low high b)

further_to : (count low high : ℕ) (a : Unit {0}) (u : List ℕ) → Both (Tested (is_within low high)) (λ b n. Further count 128 191) a u → Further (suc count) low high a u
further_to count low high a u h =
    subst (Follow (suc count) low high) (sym (h.text ∙ ap (λ (t : List ℕ). t ++ h.w) h.first.text)) (follow h.a h.first.is h.second)

further_back : (count low high : ℕ) (a : Unit {0}) (u : List ℕ) → Further (suc count) low high a u → Both (Tested (is_within low high)) (λ b n. Further count 128 191) a u
further_back count low high a [] h = elim h [ ]
further_back count low high a (b ∷ u) (follow _ h r) = record { a = b; u = b ∷ []; w = u; first = record { is = h; text = refl }; second = r; text = refl }

some_further : (count : ℕ) → Some_text (Further count 128 191)
some_further zero = record { b = done; w = []; is = no_follow }
some_further (suc count) =
    let h = some_further count in
    record { b = done; w = 128 ∷ h.w; is = follow 128 refl h.is }

pub further_part : (count low high : ℕ) → Part (Further count low high) any (followers_in count low high)
further_part zero low high = no_further low high
further_part (suc count) low high = same_texts
    (same_reader
    (then_part (Tested (is_within low high)) any (test_in (is_within low high)) (λ b n. Further count 128 191) any (λ b n. followers_in count 128 191)
    (test_part (is_within low high)) (λ b n. further_part count 128 191) (λ b u h. some_further count) (λ b n a w x h k. StopsAt-any (w ++ x)))
    (further_step count low high))
    (λ a u h. further_to count low high a u h) (λ a u h. further_back count low high a u h)

-- a character of at most so many bytes
abbrev leads : ℕ → ℕ → Bool
leads room b = is_lead b && nat_lt (continuation_len b) room

pub record Char (room : ℕ) (a : Unit {0}) (u : List ℕ) : Type 0 where
  pub lead : ℕ
  pub more : List ℕ
  pub is : is_lead lead ≡ true
  pub fits : continuation_len lead < room
  pub follows : Follow (continuation_len lead) (second_byte_min lead) (second_byte_max lead) more
  pub text : u ≡ lead ∷ more

abbrev Behind_lead : ℕ → ℕ → Unit {0} → List ℕ → Type 0
Behind_lead b n = Further (continuation_len b) (second_byte_min b) (second_byte_max b)

char_cond : (b : ℕ) (s : List ℕ) (v : Bool) → cond v (followers_in (continuation_len b) (second_byte_min b) (second_byte_max b) s) (stop (b ∷ s)) ≡ (cond v (found b s) (stop (b ∷ s)) >>= λ x. followers_in (continuation_len x.value) (second_byte_min x.value) (second_byte_max x.value) x.rest)
char_cond b s true = refl
char_cond b s false = refl

char_step : (room : ℕ) (s : List ℕ) → character_in room s ≡ then_in (test_in (leads room)) (λ b n. followers_in (continuation_len b) (second_byte_min b) (second_byte_max b)) s
unfolding character_in test_in
char_step room [] = refl
char_step room (b ∷ s) = char_cond b s (leads room b)

char_to : (room : ℕ) (a : Unit {0}) (u : List ℕ) → Both (Tested (leads room)) Behind_lead a u → Char room a u
char_to room a u h = record {
  lead = h.a;
  more = h.w;
  is = and-left (is_lead h.a) (nat_lt (continuation_len h.a) room) h.first.is;
  fits = ltb-true (continuation_len h.a) room (and-right (is_lead h.a) (nat_lt (continuation_len h.a) room) h.first.is);
  follows = h.second;
  text = h.text ∙ ap (λ (t : List ℕ). t ++ h.w) h.first.text;
}

char_back : (room : ℕ) (a : Unit {0}) (u : List ℕ) → Char room a u → Both (Tested (leads room)) Behind_lead a u
char_back room a u h = record {
  a = h.lead;
  u = h.lead ∷ [];
  w = h.more;
  first = record { is = and-both (is_lead h.lead) (nat_lt (continuation_len h.lead) room) h.is (lt-ltb (continuation_len h.lead) room h.fits); text = refl };
  second = h.follows;
  text = h.text;
}

least_fits : (b : ℕ) → is_within (second_byte_min b) (second_byte_max b) (second_byte_min b) ≡ true
least_fits b = within (second_byte_min b) (second_byte_max b) (second_byte_min b) (omega arith)
    (cond_both (b == 237) 159 (cond (b == 244) 143 191) (λ m. second_byte_min b ≤ m) (λ e. low b e) (λ e. cond_both (b == 244) 143 191 (λ m. second_byte_min b ≤ m) (λ f. low' b f) (λ f. most b))) where
      low : (b : ℕ) → (b == 237) ≡ true → second_byte_min b ≤ 159
      low b e = subst (λ (n : ℕ). second_byte_min n ≤ 159) (sym (eqb-true b 237 e)) (omega arith)

      low' : (b : ℕ) → (b == 244) ≡ true → second_byte_min b ≤ 143
      low' b e = subst (λ (n : ℕ). second_byte_min n ≤ 143) (sym (eqb-true b 244 e)) (omega arith)

      most : (b : ℕ) → second_byte_min b ≤ 191
      most b = cond_both (b == 224) 160 (cond (b == 240) 144 128) (λ m. m ≤ 191) (λ e. omega arith) (λ e. cond_both (b == 240) 144 128 (λ m. m ≤ 191) (λ f. omega arith) (λ f. omega arith))

some_behind_at : (b n : ℕ) → Some_text (Further n (second_byte_min b) (second_byte_max b))
some_behind_at b zero = record { b = done; w = []; is = no_follow }
some_behind_at b (suc n) =
    let h = some_further n in
    record { b = done; w = second_byte_min b ∷ h.w; is = follow (second_byte_min b) (least_fits b) h.is }

pub char_part : (room : ℕ) → Part (Char room) any (character_in room)
char_part room = same_texts
    (same_reader
    (then_part (Tested (leads room)) any (test_in (leads room)) Behind_lead any (λ b n. followers_in (continuation_len b) (second_byte_min b) (second_byte_max b))
    (test_part (leads room)) (λ b n. further_part (continuation_len b) (second_byte_min b) (second_byte_max b)) (λ b u h. some_behind_at b (continuation_len b))
    (λ b n a w x h k. StopsAt-any (w ++ x)))
    (char_step room))
    (λ a u h. char_to room a u h) (λ a u h. char_back room a u h)

char_head : (room : ℕ) (a : Unit {0}) (u : List ℕ) → Char room a u → Head any u
char_head room a u h = record { head = h.lead; tail = h.more; text = h.text; is = refl }

no_room : (s : List ℕ) → character_in 0 s ≡ stop s
unfolding character_in
no_room [] = refl
no_room (b ∷ s) =
    ap (λ (v : Bool). cond (is_lead b && v) (followers_in (continuation_len b) (second_byte_min b) (second_byte_max b) s) (stop (b ∷ s))) (le-ltb (continuation_len b) 0 (omega arith))
    ∙ no_room_at b s (is_lead b) where
      no_room_at : (b : ℕ) (s : List ℕ) (v : Bool) → cond (v && false) (followers_in (continuation_len b) (second_byte_min b) (second_byte_max b) s) (stop (b ∷ s)) ≡ stop (b ∷ s)
      no_room_at b s true = refl
      no_room_at b s false = refl

pub some_char : (room : ℕ) → Some_text (Char (suc room))
some_char room = record { b = done; w = 65 ∷ []; is = record { lead = 65; more = []; is = refl; fits = omega arith; follows = no_follow; text = refl } }

char_decided : (room : ℕ) → Some_text (Char room) ⊎ ((s : List ℕ) → character_in room s ≡ stop s)
char_decided zero = inr (λ s. no_room s)
char_decided (suc room) = inl (some_char room)

pub chars_part : (most room : ℕ) → Part (Items Char next_place most room) none (each_in character_in next_place most room)
chars_part most room = items_part Char character_in next_place any char_part char_head char_decided most room

-- characters in UTF-8, none of them a control character, in so many bytes
pub record InUtf8 (room : ℕ) (u : List ℕ) : Type 0 where
  pub utf8 : IsUtf8 u
  pub names : list_all is_name_byte u ≡ true
  pub short : length u ≤ room

follow_length : (n low high : ℕ) (u : List ℕ) → Follow n low high u → length u ≡ n
follow_length zero low high [] no_follow = refl
follow_length zero low high (b ∷ u) h = elim h [ ]
follow_length (suc n) low high [] h = elim h [ ]
follow_length (suc n) low high (b ∷ u) (follow _ h r) = ap suc (follow_length n 128 191 u r)

char_length : (room : ℕ) (a : Unit {0}) (u : List ℕ) → Char room a u → (1 ≤ length u) × (length u ≤ room)
char_length room a u h =
    let n = follow_length (continuation_len h.lead) (second_byte_min h.lead) (second_byte_max h.lead) h.more h.follows in
    let e : length u ≡ suc (length h.more) = ap (length {A = ℕ}) h.text in
    (omega (arith, e), omega (arith, e, n, h.fits))

add_char : (room : ℕ) (v w : List ℕ) → IsScalarText v → length v ≤ room → InUtf8 (room - length v) w → InUtf8 room (v ++ w)
add_char room v w s size r = record {
  utf8 = (s.c ∷ r.utf8.0, (and-both (scalar s.c) (scalars r.utf8.0) s.is r.utf8.1.0, ap (λ (t : List ℕ). t ++ encodes r.utf8.0) s.text ∙ ap (λ (t : List ℕ). v ++ t) r.utf8.1.1));
  names = list_all-append is_name_byte v w s.names r.names;
  short = omega (arith, length-append v w, size, r.short);
}

scalar_text : (room : ℕ) (a : Unit {0}) (u : List ℕ) → Char room a u → IsScalarText u
scalar_text room a u h = subst IsScalarText (sym h.text) (text_of_char h.lead h.more h.is h.follows)

items_utf8 : (most room : ℕ) (xs : List (Unit {0})) (u : List ℕ) → Items Char next_place most room xs u → InUtf8 room u
items_utf8 most room [] u no_more = record { utf8 = ([], (refl, refl)); names = refl; short = omega arith }
items_utf8 zero room (x ∷ xs) u h = elim h [ ]
items_utf8 (suc most) room (x ∷ xs) u (one_more v w h r) =
    add_char room v w (scalar_text room x v h) (char_length room x v h).1 (items_utf8 most (room - length v) xs w r)

-- items of these bytes
record SomeItems (most room : ℕ) (u : List ℕ) : Type 0 where
  xs : List (Unit {0})
  is : Items Char next_place most room xs u

char_fits : (room : ℕ) (u : List ℕ) → IsChar u → length u ≤ room → Char room done u
char_fits room u h k =
    let n = follow_length (continuation_len h.lead) (second_byte_min h.lead) (second_byte_max h.lead) h.more h.follows in
    record { lead = h.lead; more = h.more; is = h.is; fits = omega (arith, n, ap (length {A = ℕ}) h.text, k); follows = h.follows; text = h.text }

char_some : (u : List ℕ) → IsChar u → 1 ≤ length u
char_some u h = omega (arith, ap (length {A = ℕ}) h.text)

front_char : (room : ℕ) (c : ℕ) (rest : List ℕ) → scalar c ≡ true → list_all is_name_byte (encode c ++ rest) ≡ true → length (encode c ++ rest) ≤ room → (Char room done (encode c)) × (1 ≤ length (encode c))
front_char room c rest s names short =
    let char = char_of c s (list_all-front is_name_byte (encode c) rest names) in
    (char_fits room (encode c) char (omega (arith, short, length-append (encode c) rest)), char_some (encode c) char)

utf8_items : (most room : ℕ) (cs : List ℕ) → scalars cs ≡ true → list_all is_name_byte (encodes cs) ≡ true → length (encodes cs) ≤ room → length (encodes cs) ≤ most → SomeItems most room (encodes cs)
utf8_items most room [] s names short few = record { xs = []; is = no_more }
utf8_items zero room (c ∷ cs) s names short few =
    let char = front_char room c (encodes cs) (and-left (scalar c) (scalars cs) s) names short in
    absurd (omega (arith, char.1, few, length-append (encode c) (encodes cs)))
utf8_items (suc most) room (c ∷ cs) s names short few =
    let char = front_char room c (encodes cs) (and-left (scalar c) (scalars cs) s) names short in
    let rest = utf8_items most (room - length (encode c)) cs (and-right (scalar c) (scalars cs) s) (list_all-back is_name_byte (encode c) (encodes cs) names)
    (omega (arith, short, length-append (encode c) (encodes cs))) (omega (arith, few, char.1, length-append (encode c) (encodes cs))) in
    record { xs = done ∷ rest.xs; is = one_more (encode c) (encodes cs) char.0 rest.is }

-- the text of a part as its value
pub record Whole {A : Type 0} (P : A → List ℕ → Type 0) (v u : List ℕ) : Type 0 where
  pub value : v ≡ u
  pub a : A
  pub is : P a u

whole_in : {A : Type 0} → (List ℕ → Read A) → List ℕ → Read (List ℕ)
whole_in p s = p s >>= λ x. found s []

whole_err : {A : Type 0} (s : List ℕ) (r : Read A) (left : ℕ) → (r >>= λ x. found s []) ≡ Err left → r ≡ Err left
whole_err s (Ok x) left h = absurd cc
whole_err s (Err e) left h = cc

module _ {A : Type 0} {P : A → List ℕ → Type 0} {p : List ℕ → Read A} (part : Part P none p) where
  whole_whole : (v u w : List ℕ) → Whole P v u → StopsAt none w → whole_in p (u ++ w) ≡ found v w
  unfolding whole_in
  whole_whole v u w h k =
      let nothing : w ≡ [] = StopsAt-none w k in
      ap (λ (r : Read A). r >>= λ x. found (u ++ w) []) (part.whole h.a u w h.is k)
      ∙ ap (λ (t : List ℕ). found t []) (ap (λ (t : List ℕ). u ++ t) nothing ∙ append-nil u ∙ sym h.value)
      ∙ ap (λ (t : List ℕ). found v t) (sym nothing)

  whole_only : (s v w : List ℕ) → whole_in p s ≡ found v w → Splits (Whole P) none s v w
  unfolding whole_in
  whole_only s v w h =
      let k = bind_ok (p s) (λ x. found s []) (record { value = v; rest = w }) h in
      let one = part.only s k.0.value k.0.rest k.1 in
      let value : s ≡ v = found_value {r = found s []} refl k.2 in
      let rest : [] ≡ w = found_rest {r = found s []} refl k.2 in
      let all : s ≡ one.u = one.text ∙ ap (λ (t : List ℕ). one.u ++ t) (StopsAt-none k.0.rest one.stops) ∙ append-nil one.u in
      record {
        u = s;
        is = record { value = sym value; a = k.0.value; is = subst (P k.0.value) (sym all) one.is };
        text = sym (append-nil s) ∙ ap (λ (t : List ℕ). s ++ t) rest;
        stops = subst (StopsAt none) rest tt;
      }

  whole_begun : (s : List ℕ) (left : ℕ) → whole_in p s ≡ Err left → (v u : List ℕ) → Whole P v u → Begins (Whole P) s left
  unfolding whole_in
  whole_begun s left h v u k =
      let one = part.begun s left (whole_err s (p s) left h) k.a u k.is in
      record { front = one.front; rest = one.rest; more = one.more; value = one.front ++ one.more; is = record { value = refl; a = one.value; is = one.is }; text = one.text; left_is = one.left_is }

  whole_most : (s : List ℕ) (left : ℕ) → whole_in p s ≡ Err left → (front rest more v : List ℕ) → s ≡ front ++ rest → Whole P v (front ++ more) → left ≤ length rest
  unfolding whole_in
  whole_most s left h front rest more v t k = part.most s left (whole_err s (p s) left h) front rest more k.a t k.is

  whole_part : Part (Whole P) none (whole_in p)
  whole_part = record {
    whole = λ v u w h k. whole_whole v u w h k;
    only = λ s v w h. whole_only s v w h;
    begun = λ s left h v u k. whole_begun s left h v u k;
    most = λ s left h front rest more v t k. whole_most s left h front rest more v t k;
  }

-- one character or more
abbrev Further_chars : Unit {0} → ℕ → List (Unit {0}) → List ℕ → Type 0
Further_chars a n = Items Char next_place 256 (256 - n)

abbrev further_chars_in : Unit {0} → ℕ → List ℕ → Read (List (Unit {0}))
further_chars_in a n = each_in character_in next_place 256 (256 - n)

chars : Part (Both (Char 256) Further_chars) none (then_in (character_in 256) further_chars_in)
chars = then_part (Char 256) any (character_in 256) Further_chars none further_chars_in (char_part 256) (λ a n. chars_part 256 (256 - n))
    (λ a u h. record { b = []; w = []; is = no_more }) (λ a n xs w x h k. StopsAt-any (w ++ x))

assoc : {A B C : Type 0} (r : Result A ℕ) (f : A → Result B ℕ) (g : B → Result C ℕ) → (r >>= λ x. (f x >>= g)) ≡ ((r >>= f) >>= g)
assoc (Ok x) f g = refl
assoc (Err e) f g = refl

words_step : (s : List ℕ) → words_in s ≡ whole_in (then_in (character_in 256) further_chars_in) s
unfolding words_in whole_in
words_step s = assoc (character_in 256 s) (λ first. each_in character_in next_place 256 (256 - (length s - length first.rest)) first.rest) (λ more. found s [])

-- words that a name may have
pub record AreWords (words : List ℕ) : Type 0 where
  pub utf8 : IsUtf8 words
  pub names : list_all is_name_byte words ≡ true
  pub low : 1 ≤ length words
  pub high : length words ≤ 256

words_to_at : (u : List ℕ) (xs : List (Unit {0})) → Both (Char 256) Further_chars xs u → AreWords u
words_to_at u xs h =
    let size = char_length 256 h.a h.u h.first in
    let rest = items_utf8 256 (256 - length h.u) xs h.w h.second in
    let all = add_char 256 h.u h.w (scalar_text 256 h.a h.u h.first) size.1 rest in
    subst AreWords (sym h.text) (record { utf8 = all.utf8; names = all.names; low = omega (arith, size.0, length-append h.u h.w); high = all.short })

words_to : (v u : List ℕ) → Whole (Both (Char 256) Further_chars) v u → Spelled AreWords (λ words. words) v u
words_to v u h = record { is = subst AreWords (sym h.value) (words_to_at u h.a h.is); text = sym h.value }

words_from : (cs : List ℕ) → scalars cs ≡ true → list_all is_name_byte (encodes cs) ≡ true → 1 ≤ length (encodes cs) → length (encodes cs) ≤ 256 → (xs : List (Unit {0})) × Both (Char 256) Further_chars xs (encodes cs)
words_from [] s names low high = absurd (omega (arith, low))
words_from (c ∷ cs) s names low high =
    let char = front_char 256 c (encodes cs) (and-left (scalar c) (scalars cs) s) names high in
    let rest = utf8_items 256 (256 - length (encode c)) cs (and-right (scalar c) (scalars cs) s) (list_all-back is_name_byte (encode c) (encodes cs) names)
    (omega (arith, high, length-append (encode c) (encodes cs))) (omega (arith, high, length-append (encode c) (encodes cs))) in
    (rest.xs, record { a = done; u = encode c; w = encodes cs; first = char.0; second = rest.is; text = refl })

words_back_at : (u cs : List ℕ) → encodes cs ≡ u → scalars cs ≡ true → AreWords u → (xs : List (Unit {0})) × Both (Char 256) Further_chars xs u
words_back_at u cs e s h =
    let at : AreWords (encodes cs) = subst AreWords (sym e) h in
    let one = words_from cs s at.names at.low at.high in
    (one.0, subst (Both (Char 256) Further_chars one.0) e one.1)

words_back : (v u : List ℕ) → Spelled AreWords (λ words. words) v u → Whole (Both (Char 256) Further_chars) v u
words_back v u h =
    let at : AreWords u = subst AreWords (sym h.text) h.is in
    let one = words_back_at u at.utf8.0 at.utf8.1.1 at.utf8.1.0 at in
    record { value = sym h.text; a = one.0; is = one.1 }

-- words of a name
pub words_part : Part (Spelled AreWords (λ words. words)) none words_in
words_part = same_texts (same_reader (whole_part chars) words_step) (λ v u h. words_to v u h) (λ v u h. words_back v u h)

-- what is read as words is UTF-8
pub words_utf8 : (text words : List ℕ) → words_in text ≡ found words [] → IsUtf8 words
words_utf8 text words e = (words_part.only text words [] e).is.is.utf8

passed_ok : {A : Type 0} (r : Read A) → passed r ≡ found done [] → (x : Found A) × (r ≡ Ok x)
passed_ok (Ok x) h = (x, refl)
passed_ok (Err e) h = absurd cc

pub words_read : (text rest : List ℕ) (n : ℕ) → character_in 256 text ≡ found done rest → n ≡ 256 - (length text - length rest) → passed (each_in character_in next_place 256 n rest) ≡ found done [] → words_in text ≡ found text []
unfolding words_in
words_read text rest n e m h =
    let one = passed_ok (each_in character_in next_place 256 n rest) h in
    ap (λ (r : Read (Unit {0})). r >>= λ first. each_in character_in next_place 256 (256 - (length text - length first.rest)) first.rest >>= λ more. found text []) e
    ∙ ap (λ (k : ℕ). each_in character_in next_place 256 k rest >>= λ more. found text []) (sym m)
    ∙ ap (λ (r : Read (List (Unit {0}))). r >>= λ more. found text []) one.1
