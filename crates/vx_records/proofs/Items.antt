-- Items one after another, to the end of a text.
use Rattle.std.proofs.Common.{◌≡◌, ℕ, zero, suc, ◌+◌, ◌-◌, ◌≤◌, ◌<◌, Bool, true, false, cond, List, [], ◌∷◌, ◌++◌, length, refl, ap, sym, subst, ◌∙◌, inl, inr, arith, length-append, append-nil, append_assoc}
use Rattle.std.specs.Prelude.{Result, Ok, Err, ◌⊎◌}
use Rattle.vx_base.specs.Results.{◌>>=◌}
use Rattle.vx_records.specs.Parts.{Found, Read, found, stop, ended_at, each_in}
use Rattle.vx_records.proofs.Grammar.{Part, Splits, Begins, Both, Some_text, StopsAt, StopsAt-any, StopsAt-none, any, none, then_in, then_part, found_value, found_rest}
use Rattle.vx_records.proofs.Steps.{Nothing, ended_at_part, Mapped, map_in, map_part, same_reader, same_texts}

-- the texts of items, of which each is one that may stand behind those before
pub data Items {K X : Type 0} (Item : K → X → List ℕ → Type 0) (next : K → X → ℕ → K) : ℕ → K → List X → List ℕ → Type 0 where
  no_more : {most : ℕ} {k : K} → Items Item next most k [] []
  one_more : {most : ℕ} {k : K} {x : X} {xs : List X} (v w : List ℕ) → Item k x v → Items Item next most (next k x (length v)) xs w → Items Item next (suc most) k (x ∷ xs) (v ++ w)

-- a text that isn't empty, and begins with such a byte
pub record Head (ends : ℕ → Bool) (u : List ℕ) : Type 0 where
  pub head : ℕ
  pub tail : List ℕ
  pub text : u ≡ head ∷ tail
  pub is : ends head ≡ true

-- nothing, or a part that isn't empty
pub data Perhaps {A : Type 0} (a : A) (P : A → List ℕ → Type 0) (b : A) (u : List ℕ) : Type 0 where
  nothing : b ≡ a → u ≡ [] → Perhaps a P b u
  something : P b u → Perhaps a P b u

abbrev pub perhaps_in : {A : Type 0} → A → (List ℕ → Read A) → List ℕ → Read A
perhaps_in a p [] = found a []
perhaps_in a p (b ∷ s) = p (b ∷ s)

module _ {A : Type 0} (a : A) (P : A → List ℕ → Type 0) (p : List ℕ → Read A) (part : Part P none p) (heads : (b : A) (u : List ℕ) → P b u → Head any u) (decided : Some_text P ⊎ ((s : List ℕ) → p s ≡ stop s)) where
  perhaps_cons : (u w : List ℕ) → Head any u → perhaps_in a p (u ++ w) ≡ p (u ++ w)
  perhaps_cons u w h = ap (λ (t : List ℕ). perhaps_in a p (t ++ w)) h.text ∙ ap (λ (t : List ℕ). p (t ++ w)) (sym h.text)

  perhaps_whole : (b : A) (u w : List ℕ) → Perhaps a P b u → StopsAt none w → perhaps_in a p (u ++ w) ≡ found b w
  perhaps_whole b u w (nothing e t) k =
      let empty : w ≡ [] = StopsAt-none w k in
      ap (λ (x : List ℕ). perhaps_in a p (x ++ w)) t ∙ ap (λ (x : List ℕ). perhaps_in a p x) empty ∙ ap (λ (x : A). found x []) (sym e) ∙ ap (λ (x : List ℕ). found b x) (sym empty)
  perhaps_whole b u w (something h) k = perhaps_cons u w (heads b u h) ∙ part.whole b u w h k

  perhaps_only : (s : List ℕ) (b : A) (w : List ℕ) → perhaps_in a p s ≡ found b w → Splits (Perhaps a P) none s b w
  perhaps_only [] b w h =
      let rest : [] ≡ w = found_rest {r = found a []} refl h in
      let value : a ≡ b = found_value {r = found a []} refl h in
      record { u = []; is = nothing (sym value) refl; text = rest; stops = subst (StopsAt none) rest tt }
  perhaps_only (c ∷ s) b w h =
      let one = part.only (c ∷ s) b w h in
      record { u = one.u; is = something one.is; text = one.text; stops = one.stops }

  perhaps_begun_at : (s : List ℕ) (left : ℕ) → p s ≡ Err left → Some_text P ⊎ ((s : List ℕ) → p s ≡ stop s) → Begins (Perhaps a P) s left
  perhaps_begun_at s left h (inl some) =
      let one = part.begun s left h some.b some.w some.is in
      record { front = one.front; rest = one.rest; more = one.more; value = one.value; is = something one.is; text = one.text; left_is = one.left_is }
  perhaps_begun_at s left h (inr stops) =
      record { front = []; rest = s; more = []; value = a; is = nothing refl refl; text = refl; left_is = cc (h, stops s) }

  perhaps_begun : (s : List ℕ) (left : ℕ) → perhaps_in a p s ≡ Err left → Begins (Perhaps a P) s left
  perhaps_begun [] left h = absurd (cc (h))
  perhaps_begun (c ∷ s) left h = perhaps_begun_at (c ∷ s) left h decided

  perhaps_most_at : (s : List ℕ) (left : ℕ) → p s ≡ Err left → left ≤ length s → (front rest more : List ℕ) (b : A) → s ≡ front ++ rest → Perhaps a P b (front ++ more) → left ≤ length rest
  perhaps_most_at s left h within front rest more b t (something k) = part.most s left h front rest more b t k
  perhaps_most_at s left h within [] rest more b t (nothing e k) = omega (arith, within, ap (length {A = ℕ}) t)
  perhaps_most_at s left h within (c ∷ front) rest more b t (nothing e k) = absurd (cc (k))

  left_of : (s : List ℕ) (left : ℕ) → Begins (Perhaps a P) s left → left ≤ length s
  left_of s left h = omega (arith, h.left_is, ap (length {A = ℕ}) h.text, length-append h.front h.rest)

  perhaps_most : (s : List ℕ) (left : ℕ) → perhaps_in a p s ≡ Err left → (front rest more : List ℕ) (b : A) → s ≡ front ++ rest → Perhaps a P b (front ++ more) → left ≤ length rest
  perhaps_most [] left h front rest more b t k = absurd (cc (h))
  perhaps_most (c ∷ s) left h front rest more b t k = perhaps_most_at (c ∷ s) left h (left_of (c ∷ s) left (perhaps_begun_at (c ∷ s) left h decided)) front rest more b t k

  pub perhaps_part : Part (Perhaps a P) none (perhaps_in a p)
  perhaps_part = record {
    whole = λ b u w h k. perhaps_whole b u w h k;
    only = λ s b w h. perhaps_only s b w h;
    begun = λ s left h b u k. perhaps_begun s left h;
    most = λ s left h front rest more b t k. perhaps_most s left h front rest more b t k;
  }

module _ {K X : Type 0} (Item : K → X → List ℕ → Type 0) (item : K → List ℕ → Read X) (next : K → X → ℕ → K) (ends : ℕ → Bool) (part : (k : K) → Part (Item k) ends (item k)) (heads : (k : K) (x : X) (u : List ℕ) → Item k x u → Head ends u) (decided : (k : K) → Some_text (Item k) ⊎ ((s : List ℕ) → item k s ≡ stop s)) where
  -- one item and those behind it
  abbrev More : ℕ → K → List X → List ℕ → Type 0
  More most k = Both (Item k) (λ x n. Mapped (λ (xs : List X). x ∷ xs) (Items Item next most (next k x n)))

  abbrev more_in : ℕ → K → List ℕ → Read (List X)
  more_in most k = then_in (item k) (λ x n. map_in (λ (xs : List X). x ∷ xs) (each_in item next most (next k x n)))

  head_stops : (most : ℕ) (k : K) (xs : List X) (w : List ℕ) → Items Item next most k xs w → StopsAt ends w
  head_stops most k [] w no_more = tt
  head_stops zero k (x ∷ xs) w h = elim h [ ]
  head_stops (suc most) k (x ∷ xs) w (one_more v u h r) = stops_at (heads k x v h) where
    stops_at : Head ends v → StopsAt ends (v ++ u)
    stops_at h = subst (λ (t : List ℕ). StopsAt ends (t ++ u)) (sym h.text) h.is

  ending : (most : ℕ) (k : K) (x : X) (n : ℕ) (xs : List X) (w y : List ℕ) → Mapped (λ (ys : List X). x ∷ ys) (Items Item next most (next k x n)) xs w → StopsAt none y → StopsAt ends (w ++ y)
  ending most k x n xs w y h j =
      subst (λ (t : List ℕ). StopsAt ends (w ++ t)) (sym (StopsAt-none y j)) (subst (StopsAt ends) (sym (append-nil w)) (head_stops most (next k x n) h.a w h.is))

  more_head : (most : ℕ) (k : K) (xs : List X) (u : List ℕ) → More most k xs u → Head any u
  more_head most k xs u h =
      let one = heads k h.a h.u h.first in
      record { head = one.head; tail = one.tail ++ h.w; text = h.text ∙ ap (λ (t : List ℕ). t ++ h.w) one.text; is = refl }

  more_decided : (most : ℕ) (k : K) → Some_text (Item k) ⊎ ((s : List ℕ) → item k s ≡ stop s) → Some_text (More most k) ⊎ ((s : List ℕ) → more_in most k s ≡ stop s)
  more_decided most k (inl h) = inl (record {
    b = h.b ∷ [];
    w = h.w ++ [];
    is = record { a = h.b; u = h.w; w = []; first = h.is; second = record { a = []; is = no_more; value = refl }; text = refl };
  })
  more_decided most k (inr h) = inr (λ s. ap (λ (r : Read X). r >>= λ x. map_in (λ (xs : List X). x.value ∷ xs) (each_in item next most (next k x.value (length s - length x.rest))) x.rest) (h s))

  none_left : (k : K) (s : List ℕ) → each_in item next 0 k s ≡ ended_at [] s
  unfolding each_in
  none_left k [] = refl
  none_left k (b ∷ s) = refl

  one_left : (most : ℕ) (k : K) (s : List ℕ) → each_in item next (suc most) k s ≡ perhaps_in [] (more_in most k) s
  unfolding each_in
  one_left most k [] = refl
  one_left most k (b ∷ s) = refl

  none_to : (k : K) (xs : List X) (u : List ℕ) → Nothing [] xs u → Items Item next 0 k xs u
  none_to k xs u h = subst (λ (ys : List X). Items Item next 0 k ys u) (sym h.value) (subst (Items Item next 0 k []) (sym h.text) no_more)

  none_back : (k : K) (xs : List X) (u : List ℕ) → Items Item next 0 k xs u → Nothing [] xs u
  none_back k [] u no_more = record { value = refl; text = refl }
  none_back k (x ∷ xs) u h = elim h [ ]

  more_to : (most : ℕ) (k : K) (xs : List X) (u : List ℕ) → Perhaps [] (More most k) xs u → Items Item next (suc most) k xs u
  more_to most k xs u (nothing e t) = subst (λ (ys : List X). Items Item next (suc most) k ys u) (sym e) (subst (Items Item next (suc most) k []) (sym t) no_more)
  more_to most k xs u (something h) =
      subst (λ (ys : List X). Items Item next (suc most) k ys u) (sym h.second.value)
      (subst (Items Item next (suc most) k (h.a ∷ h.second.a)) (sym h.text) (one_more h.u h.w h.first h.second.is))

  more_back : (most : ℕ) (k : K) (xs : List X) (u : List ℕ) → Items Item next (suc most) k xs u → Perhaps [] (More most k) xs u
  more_back most k [] u no_more = nothing refl refl
  more_back most k (x ∷ xs) u (one_more v w h r) = something (record {
    a = x;
    u = v;
    w = w;
    first = h;
    second = record { a = xs; is = r; value = refl };
    text = refl;
  })

  -- items to the end of the text
  pub items_part : (most : ℕ) (k : K) → Part (Items Item next most k) none (each_in item next most k)
  items_part zero k = same_texts (same_reader (ended_at_part []) (none_left k)) (λ xs u h. none_to k xs u h) (λ xs u h. none_back k xs u h)
  items_part (suc most) k =
      let both : Part (More most k) none (more_in most k) =
      then_part (Item k) ends (item k) (λ x n. Mapped (λ (xs : List X). x ∷ xs) (Items Item next most (next k x n))) none
      (λ x n. map_in (λ (xs : List X). x ∷ xs) (each_in item next most (next k x n))) (part k)
      (λ x n. map_part (λ (xs : List X). x ∷ xs) (items_part most (next k x n)))
      (λ x u h. record { b = x ∷ []; w = []; is = record { a = []; is = no_more; value = refl } })
      (λ x n xs w y h j. ending most k x n xs w y h j) in
      same_texts (same_reader (perhaps_part [] (More most k) (more_in most k) both (λ xs u h. more_head most k xs u h) (more_decided most k (decided k))) (one_left most k))
      (λ xs u h. more_to most k xs u h) (λ xs u h. more_back most k xs u h)
