-- Lists that are moved element by element.
use Rattle.std.specs.Borrow.{Bor}
use Rattle.std.proofs.Common.{zero, suc, ◌<◌, ◌≤◌, ◌-◌, length, map, get_or, refl, arith, ◌≡◌, ◌+◌, ℕ, List, [], ◌∷◌, ◌++◌, drop, take, Some, sym, ap, subst, ◌∙◌, append_assoc}
use Rattle.std.specs.Prelude.{All, slice_get}
use Rattle.std.proofs.lemmas.Option.{slice_get_within, get_or_from_slice_get}
use Rattle.std.proofs.lemmas.List.{drop_more, get_or-drop, length-drop, take_all}
use Rattle.std.proofs.lemmas.List.Elements.{All-more}

-- one element more
pub one_moved : {X : Type 0} (moved xs all : List X) (i : ℕ) (x : X) → slice_get xs i ≡ Some x → moved ++ drop i xs ≡ all → (moved ++ x ∷ []) ++ drop (i + 1) xs ≡ all
one_moved {X} moved xs all i x at is =
    append_assoc moved (x ∷ []) (drop (i + 1) xs)
    ∙ ap (λ (left : List X). moved ++ left) (sym (drop_more xs i x (slice_get_within xs i x at) ∙ ap (λ (y : X). y ∷ drop (i + 1) xs) (get_or_from_slice_get xs i x x at)))
    ∙ is

-- a text behind a reference
pub got : (words : List (Bor (List ℕ))) (i : ℕ) (none : Bor (List ℕ)) → i < length words → slice_get (map (λ word. word.now) words) i ≡ Some (get_or words i none).now
got [] i none inside = absurd (omega (arith, inside))
got (word ∷ words) zero none inside = refl
got (word ∷ words) (suc i) none inside = got words i none (omega (arith, inside))

pub map_more : (words : List (Bor (List ℕ))) (word : Bor (List ℕ)) → map (λ (w : Bor (List ℕ)). w.now) (words ++ word ∷ []) ≡ map (λ (w : Bor (List ℕ)). w.now) words ++ word.now ∷ []
map_more [] word = refl
map_more (first ∷ words) word = ap (λ (l : List (List ℕ)). first.now ∷ l) (map_more words word)

-- words that are looked at one by one, from one on
module _ (Is : List ℕ → Type 0) where
  pub one_more : (words : List (List ℕ)) (from i : ℕ) (word : List ℕ) → from ≤ i → slice_get words i ≡ Some word → All Is (take (i - from) (drop from words)) → Is word → All Is (take (i + 1 - from) (drop from words))
  one_more words from i word some at before is =
      let inside : i < length words = slice_get_within words i word at in
      let place : from + (i - from) ≡ i = omega arith in
      let next : i + 1 - from ≡ (i - from) + 1 = omega arith in
      let here : get_or (drop from words) (i - from) [] ≡ word = get_or-drop from words (i - from) [] ∙ ap (λ n. get_or words n []) place ∙ get_or_from_slice_get words i word [] at in
      rw next (All-more Is (drop from words) (i - from) [] (omega (arith, length-drop from words)) before (subst Is (sym here) is))

  pub one_of_them : (words : List (List ℕ)) (from i : ℕ) (word : List ℕ) → from ≤ i → slice_get words i ≡ Some word → All Is (drop from words) → Is word
  one_of_them words from i word some at are =
      let inside : i < length words = slice_get_within words i word at in
      let place : from + (i - from) ≡ i = omega arith in
      let here : get_or (drop from words) (i - from) [] ≡ word = get_or-drop from words (i - from) [] ∙ ap (λ n. get_or words n []) place ∙ get_or_from_slice_get words i word [] at in
      subst Is here (are (i - from) [] (omega (arith, length-drop from words, inside)))

  pub all_of_them : (words : List (List ℕ)) (from i : ℕ) → length words ≤ i → All Is (take (i - from) (drop from words)) → All Is (drop from words)
  all_of_them words from i past are =
      let Are : List (List ℕ) → Type 0 = λ l. All Is l in
      subst Are (take_all (i - from) (drop from words) (omega (arith, length-drop from words))) are
