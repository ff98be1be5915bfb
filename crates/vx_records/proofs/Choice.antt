-- A choice of words, of which none begins another.
use Rattle.std.proofs.Common.{◌≡◌, ℕ, zero, suc, ◌+◌, ◌-◌, ◌≤◌, ◌<◌, Bool, true, false, cond, List, [], ◌∷◌, ◌++◌, length, refl, ap, sym, subst, ◌∙◌, inl, inr, arith, length-append, append-nil, append_assoc, min}
use Rattle.std.specs.Prelude.{Result, Ok, Err, ◌==◌, ◌&&◌, ◌||◌, not, ◌⊎◌}
use Rattle.std.specs.List.{list_all}
use Rattle.std.proofs.lemmas.Bool.{eqb-true, eq-eqb, not-true, cases_lt}
use Rattle.vx_base.proofs.Booleans.{and-left, and-right, or-cases}
use Rattle.vx_records.specs.Parts.{Found, Read, found, stop, pick, word_in, choice_from, choice_in, done}
use Rattle.vx_records.proofs.Grammar.{Part, Splits, Begins, StopsAt, StopsAt-any, any, found_value, found_rest}
use Rattle.vx_records.proofs.Steps.{Spelled, eqb_refl}
use Rattle.vx_records.proofs.Runs.{Word, word_part}

-- the words differ in some byte that both have
abbrev pub differ : List ℕ → List ℕ → Bool
differ [] other = false
differ (b ∷ word) [] = false
differ (b ∷ word) (c ∷ other) = not (b == c) || differ word other

differ_apart : (u v w x : List ℕ) → differ u v ≡ true → u ++ w ≡ v ++ x → ⊥
differ_apart [] v w x h e = cc
differ_apart (b ∷ u) [] w x h e = cc
differ_apart (b ∷ u) (c ∷ v) w x h e =
    let same : b ≡ c = cc (e) in
    let rest : u ++ w ≡ v ++ x = cc (e) in
    or-cases (not (b == c)) (differ u v) h (λ k. clash (eq-eqb b c same) (not-true (b == c) k)) (λ k. differ_apart u v w x k rest) where
      clash : (b == c) ≡ true → (b == c) ≡ false → ⊥
      clash x y = cc

abbrev pub Among : {A : Type 0} → A → List A → Type 0
Among a [] = ⊥
Among a (v ∷ more) = (a ≡ v) ⊎ Among a more

abbrev pub all_apart : {A : Type 0} → (A → List ℕ) → List A → Bool
all_apart word [] = true
all_apart word (v ∷ more) = list_all (λ a. differ (word v) (word a)) more && all_apart word more

apart_of : {A : Type 0} (word : A → List ℕ) (v a : A) (more : List A) → list_all (λ x. differ (word v) (word x)) more ≡ true → Among a more → differ (word v) (word a) ≡ true
apart_of word v a [] h k = absurd k
apart_of word v a (x ∷ more) h (inl e) = subst (λ y. differ (word v) (word y) ≡ true) (sym e) (and-left (differ (word v) (word x)) (list_all (λ y. differ (word v) (word y)) more) h)
apart_of word v a (x ∷ more) h (inr k) = apart_of word v a more (and-right (differ (word v) (word x)) (list_all (λ y. differ (word v) (word y)) more) h) k

-- one of the values, by its word
abbrev pub Chosen : {A : Type 0} → (A → List ℕ) → List A → A → List ℕ → Type 0
Chosen word values = Spelled (λ a. Among a values) word

module _ {A : Type 0} (word : A → List ℕ) where
  -- how the first word is answered
  data Tried (v : A) (s : List ℕ) : Type 0 where
    fits : (w : List ℕ) → word_in (word v) s ≡ found done w → s ≡ word v ++ w → Tried v s
    stops : (e : ℕ) → word_in (word v) s ≡ Err e → Tried v s

  tried_at : (v : A) (s : List ℕ) (r : Read (Unit {0})) → word_in (word v) s ≡ r → Tried v s
  tried_at v s (Ok x) e =
      let one = (word_part (word v)).only s x.value x.rest e in
      fits x.rest e (one.text ∙ ap (λ (t : List ℕ). t ++ x.rest) one.is.text)
  tried_at v s (Err n) e = stops n e

  tried : (v : A) (s : List ℕ) → Tried v s
  tried v s = tried_at v s (word_in (word v) s) refl

  picks : (left : ℕ) (v : A) (more : List A) (s w : List ℕ) → word_in (word v) s ≡ found done w → choice_from left word (v ∷ more) s ≡ found v w
  unfolding choice_from
  picks left v more s w h = ap (λ (r : Read (Unit {0})). pick v r (λ other. choice_from (min left other) word more s)) h

  passes : (left : ℕ) (v : A) (more : List A) (s : List ℕ) (e : ℕ) → word_in (word v) s ≡ Err e → choice_from left word (v ∷ more) s ≡ choice_from (min left e) word more s
  unfolding choice_from
  passes left v more s e h = ap (λ (r : Read (Unit {0})). pick v r (λ other. choice_from (min left other) word more s)) h

  whole_first : (left : ℕ) (v a : A) (more : List A) (w : List ℕ) → a ≡ v → choice_from left word (v ∷ more) (word a ++ w) ≡ found a w
  whole_first left v a more w e =
      let here : word_in (word v) (word a ++ w) ≡ found done w =
      ap (λ (x : A). word_in (word v) (word x ++ w)) e ∙ (word_part (word v)).whole done (word v) w (record { is = tt; text = refl }) (StopsAt-any w) in
      picks left v more (word a ++ w) w here ∙ ap (λ (x : A). found x w) (sym e)

  whole_next : (left : ℕ) (v a : A) (more : List A) (w : List ℕ) → differ (word v) (word a) ≡ true → Tried v (word a ++ w) → ((left : ℕ) → choice_from left word more (word a ++ w) ≡ found a w) → choice_from left word (v ∷ more) (word a ++ w) ≡ found a w
  whole_next left v a more w d (fits x h e) next = absurd (differ_apart (word v) (word a) x w d (sym e))
  whole_next left v a more w d (stops e h) next = passes left v more (word a ++ w) e h ∙ next (min left e)

  choice_whole : (left : ℕ) (values : List A) (a : A) (w : List ℕ) → all_apart word values ≡ true → Among a values → choice_from left word values (word a ++ w) ≡ found a w
  choice_whole left [] a w h k = absurd k
  choice_whole left (v ∷ more) a w h (inl e) = whole_first left v a more w e
  choice_whole left (v ∷ more) a w h (inr k) =
      whole_next left v a more w (apart_of word v a more (and-left (list_all (λ x. differ (word v) (word x)) more) (all_apart word more) h) k) (tried v (word a ++ w))
      (λ n. choice_whole n more a w (and-right (list_all (λ x. differ (word v) (word x)) more) (all_apart word more) h) k)

  -- only a word is read
  record Reads (values : List A) (s : List ℕ) (a : A) (w : List ℕ) : Type 0 where
    is : Among a values
    text : s ≡ word a ++ w

  only_tried : (left : ℕ) (v : A) (more : List A) (s : List ℕ) (a : A) (w : List ℕ) → Tried v s → choice_from left word (v ∷ more) s ≡ found a w → ((n : ℕ) → choice_from n word more s ≡ found a w → Reads more s a w) → Reads (v ∷ more) s a w
  only_tried left v more s a w (fits x h e) k next =
      let value : v ≡ a = found_value (picks left v more s x h) k in
      let rest : x ≡ w = found_rest (picks left v more s x h) k in
      record { is = inl (sym value); text = e ∙ ap (λ (t : List ℕ). word v ++ t) rest ∙ ap (λ (y : A). word y ++ w) value }
  only_tried left v more s a w (stops e h) k next =
      let one = next (min left e) (sym (passes left v more s e h) ∙ k) in
      record { is = inr one.is; text = one.text }

  choice_only : (left : ℕ) (values : List A) (s : List ℕ) (a : A) (w : List ℕ) → choice_from left word values s ≡ found a w → Reads values s a w
  unfolding choice_from
  choice_only left [] s a w h = absurd (cc (h))
  choice_only left (v ∷ more) s a w h = only_tried left v more s a w (tried v s) h (λ n k. choice_only n more s a w k)

  -- nothing is begun, or some word
  abbrev Known : List A → List ℕ → ℕ → Type 0
  Known all s left = (left ≡ length s) ⊎ Begins (Chosen word all) s left

  known_min : (all : List A) (s : List ℕ) (n m : ℕ) → Known all s n → Known all s m → Known all s (min n m)
  known_min all s n m h k = elim (cases_lt n m) [
    | inl a ↦ subst (Known all s) (least_left a) h
    | inr a ↦ subst (Known all s) (least_right a) k
  ] where
    least_left : n < m → n ≡ min n m
    least_left a = omega arith

    least_right : m ≤ n → m ≡ min n m
    least_right a = omega arith

  begun_word : (all : List A) (v : A) (s : List ℕ) (e : ℕ) → Among v all → word_in (word v) s ≡ Err e → Begins (Chosen word all) s e
  begun_word all v s e k h =
      let one = (word_part (word v)).begun s e h done (word v) (record { is = tt; text = refl }) in
      record { front = one.front; rest = one.rest; more = one.more; value = v; is = record { is = k; text = one.is.text }; text = one.text; left_is = one.left_is }

  begun_tried : (all : List A) (left end : ℕ) (v : A) (more : List A) (s : List ℕ) → Tried v s → choice_from left word (v ∷ more) s ≡ Err end → Known all s left → Among v all → ((n : ℕ) → choice_from n word more s ≡ Err end → Known all s n → Known all s end) → Known all s end
  begun_tried all left end v more s (fits x h e) k known here next = absurd cc_of where
    cc_of : ⊥
    cc_of = cc (picks left v more s x h, k)
  begun_tried all left end v more s (stops e h) k known here next =
      next (min left e) (sym (passes left v more s e h) ∙ k) (known_min all s left e known (inr (begun_word all v s e here h)))

  choice_known : (all : List A) (left end : ℕ) (values : List A) (s : List ℕ) → ((v : A) → Among v values → Among v all) → choice_from left word values s ≡ Err end → Known all s left → Known all s end
  unfolding choice_from
  choice_known all left end [] s inside h k = known_end (cc (h)) where
    known_end : left ≡ end → Known all s end
    known_end e = subst (Known all s) e k
  choice_known all left end (v ∷ more) s inside h k =
      begun_tried all left end v more s (tried v s) h k (inside v (inl refl)) (λ n e j. choice_known all n end more s (λ x i. inside x (inr i)) e j)

  known_begins : (all : List A) (s : List ℕ) (end : ℕ) → Known all s end → (a : A) (u : List ℕ) → Chosen word all a u → Begins (Chosen word all) s end
  known_begins all s end (inl e) a u h = record { front = []; rest = s; more = u; value = a; is = h; text = refl; left_is = e }
  known_begins all s end (inr b) a u h = b

  -- no longer front begins one
  within_tried : (left end : ℕ) (v : A) (more : List A) (s : List ℕ) → Tried v s → choice_from left word (v ∷ more) s ≡ Err end → ((n : ℕ) → choice_from n word more s ≡ Err end → end ≤ n) → end ≤ left
  within_tried left end v more s (fits x h e) k next = absurd cc_of where
    cc_of : ⊥
    cc_of = cc (picks left v more s x h, k)
  within_tried left end v more s (stops e h) k next = shorter (next (min left e) (sym (passes left v more s e h) ∙ k)) where
    shorter : end ≤ min left e → end ≤ left
    shorter h = omega arith

  choice_within : (left end : ℕ) (values : List A) (s : List ℕ) → choice_from left word values s ≡ Err end → end ≤ left
  unfolding choice_from
  choice_within left end [] s h = same_end (cc (h)) where
    same_end : left ≡ end → end ≤ left
    same_end h = omega arith
  choice_within left end (v ∷ more) s h = within_tried left end v more s (tried v s) h (λ n k. choice_within n end more s k)

  most_first : (left end : ℕ) (v : A) (values : List A) (s front rest more : List ℕ) → Tried v s → choice_from left word (v ∷ values) s ≡ Err end → s ≡ front ++ rest → word v ≡ front ++ more → end ≤ length rest
  most_first left end v values s front rest more (fits x h e) k t j = absurd cc_of where
    cc_of : ⊥
    cc_of = cc (picks left v values s x h, k)
  most_first left end v values s front rest more (stops e h) k t j =
      let one = (word_part (word v)).most s e h front rest more done t (record { is = tt; text = sym j }) in
      let two = choice_within (min left e) end values s (sym (passes left v values s e h) ∙ k) in
      omega (arith, one, two)

  most_tried : (left end : ℕ) (v : A) (values : List A) (s rest : List ℕ) → Tried v s → choice_from left word (v ∷ values) s ≡ Err end → ((n : ℕ) → choice_from n word values s ≡ Err end → end ≤ length rest) → end ≤ length rest
  most_tried left end v values s rest (fits x h e) k next = absurd cc_of where
    cc_of : ⊥
    cc_of = cc (picks left v values s x h, k)
  most_tried left end v values s rest (stops e h) k next = next (min left e) (sym (passes left v values s e h) ∙ k)

  choice_most : (left end : ℕ) (values : List A) (s front rest more : List ℕ) (a : A) → choice_from left word values s ≡ Err end → s ≡ front ++ rest → Among a values → word a ≡ front ++ more → end ≤ length rest
  choice_most left end [] s front rest more a h t k j = absurd k
  choice_most left end (v ∷ values) s front rest more a h t (inl e) j = most_first left end v values s front rest more (tried v s) h t (ap word (sym e) ∙ j)
  choice_most left end (v ∷ values) s front rest more a h t (inr k) j = most_tried left end v values s rest (tried v s) h (λ n i. choice_most n end values s front rest more a i t k j)

  -- a choice of words
  pub choice_part : (values : List A) → all_apart word values ≡ true → Part (Chosen word values) any (choice_in word values)
  choice_part values h = record {
    whole = λ a u w k j. ap (λ (t : List ℕ). choice_in word values (t ++ w)) k.text ∙ choice_whole (length (word a ++ w)) values a w h k.is;
    only = λ s a w k. only_at s a w (choice_only (length s) values s a w k);
    begun = λ s left k a u j. known_begins values s left (choice_known values (length s) left values s (λ v i. i) k (inl refl)) a u j;
    most = λ s left k front rest more a t j. choice_most (length s) left values s front rest more a k t j.is (sym j.text);
  } where
    only_at : (s : List ℕ) (a : A) (w : List ℕ) → Reads values s a w → Splits (Chosen word values) any s a w
    only_at s a w k = record { u = word a; is = record { is = k.is; text = refl }; text = k.text; stops = StopsAt-any w }
