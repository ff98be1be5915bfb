-- Walks over a list with places, element by element.
use Rattle.std.proofs.Common.{◌≡◌, ℕ, suc, ◌+◌, ◌<◌, List, [], ◌∷◌, ◌++◌, length, take, get_or, ap, sym, ◌∙◌, arith, append_assoc, append-nil}
use Rattle.std.proofs.lemmas.List.{take_more, length-take-le}
use Rattle.std.specs.Prelude.{Some, slice_get}
use Rattle.std.specs.List.{flat_map}
use Rattle.vx_base.proofs.Lists.{flat_map-take_more}
use Rattle.vx_audit.specs.Walk.{by_place}

module _ {X A : Type 0} (give : ℕ → X → List A) where
  pub by_place-append : (n : ℕ) (xs ys : List X) → by_place give n (xs ++ ys) ≡ by_place give n xs ++ by_place give (n + length xs) ys
  by_place-append n [] ys = let at : n ≡ n + 0 = omega arith in ap (λ m. by_place give m ys) at
  by_place-append n (x ∷ xs) ys =
      let at : n + 1 + length xs ≡ n + suc (length xs) = omega arith in
      ap (λ (more : List A). give n x ++ more) (by_place-append (n + 1) xs ys ∙ ap (λ m. by_place give (n + 1) xs ++ by_place give m ys) at)
      ∙ sym (append_assoc (give n x) (by_place give (n + 1) xs) (by_place give (n + suc (length xs)) ys))

  module _ (xs : List X) (i : ℕ) (x : X) (within : i < length xs) (is : x ≡ get_or xs i x) where
    -- one element more
    pub by_place-more : by_place give 0 (take (i + 1) xs) ≡ by_place give 0 (take i xs) ++ give i x
    by_place-more =
        let at : 0 + length (take i xs) ≡ i = omega (arith, length-take-le i xs (omega arith)) in
        ap (by_place give 0) (take_more xs i x within)
        ∙ by_place-append 0 (take i xs) (get_or xs i x ∷ [])
        ∙ ap (λ (more : List A). by_place give 0 (take i xs) ++ more)
        (append-nil (give (0 + length (take i xs)) (get_or xs i x)) ∙ ap (λ m. give m (get_or xs i x)) at ∙ ap (give i) (sym is))

    -- the loop's step: what is laid so far, and what one element more gives
    pub one-laid : (old so_far now : List A) → so_far ≡ old ++ by_place give 0 (take i xs) → now ≡ so_far ++ give i x
        → now ≡ old ++ by_place give 0 (take (i + 1) xs)
    one-laid old so_far now before step =
        step
        ∙ ap (λ (front : List A). front ++ give i x) before
        ∙ append_assoc old (by_place give 0 (take i xs)) (give i x)
        ∙ ap (λ (more : List A). old ++ more) (sym by_place-more)

-- the same where the place has no part in what is given
pub laid_next : {X Y : Type 0} (f : X → List Y) (xs : List X) (i : ℕ) (x : X) → slice_get xs i ≡ Some x → (old so_far now : List Y)
    → so_far ≡ old ++ flat_map f (take i xs) → now ≡ so_far ++ f x → now ≡ old ++ flat_map f (take (i + 1) xs)
laid_next {Y = Y} f xs i x there old so_far now before step =
    step
    ∙ ap (λ (front : List Y). front ++ f x) before
    ∙ append_assoc old (flat_map f (take i xs)) (f x)
    ∙ ap (λ (more : List Y). old ++ more) (sym (flat_map-take_more f xs i x there))
