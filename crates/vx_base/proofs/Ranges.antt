-- Lists over the first numbers.
use Rattle.std.proofs.Common.{◌≡◌, ℕ, ◌+◌, List, [], ◌∷◌, ◌++◌, map, refl, ap, sym, ◌∙◌, arith, map-id, append-nil, append_assoc}
use Rattle.std.specs.List.{flat_map, range_with_len}
use Rattle.std.proofs.lemmas.List.Concat.{flat_map-append}
use Rattle.std.proofs.lemmas.List.FromFn.{map-range_with_len_more}

-- one number more
pub range-more : (a n : ℕ) → range_with_len a (n + 1) ≡ range_with_len a n ++ (a + n) ∷ []
range-more a n =
    sym (map-id (range_with_len a (n + 1)))
    ∙ map-range_with_len_more (λ (k : ℕ). k) a n (a + n) refl
    ∙ ap (λ (ks : List ℕ). ks ++ (a + n) ∷ []) (map-id (range_with_len a n))

-- what one number more adds
pub flat_map-range_more : {X : Type 0} (f : ℕ → List X) (n : ℕ) → flat_map f (range_with_len 0 (n + 1)) ≡ flat_map f (range_with_len 0 n) ++ f n
flat_map-range_more {X = X} f n =
    let at : 0 + n ≡ n = omega arith in
    ap (flat_map f) (range-more 0 n)
    ∙ flat_map-append f (range_with_len 0 n) ((0 + n) ∷ [])
    ∙ ap (λ (xs : List X). flat_map f (range_with_len 0 n) ++ xs) (append-nil (f (0 + n)))
    ∙ ap (λ (k : ℕ). flat_map f (range_with_len 0 n) ++ f k) at

-- the loop's step: what is laid so far, and one number more
pub flat_map-laid : {X : Type 0} (f : ℕ → List X) (old so_far now : List X) (n : ℕ) → so_far ≡ old ++ flat_map f (range_with_len 0 n) → now ≡ so_far ++ f n → now ≡ old ++ flat_map f (range_with_len 0 (n + 1))
flat_map-laid {X = X} f old so_far now n before step =
    step
    ∙ ap (λ (xs : List X). xs ++ f n) before
    ∙ append_assoc old (flat_map f (range_with_len 0 n)) (f n)
    ∙ ap (λ (xs : List X). old ++ xs) (sym (flat_map-range_more f n))

-- the same for one element each
pub map-laid : {X : Type 0} (f : ℕ → X) (old so_far now : List X) (n : ℕ) → so_far ≡ old ++ map f (range_with_len 0 n) → now ≡ so_far ++ f n ∷ [] → now ≡ old ++ map f (range_with_len 0 (n + 1))
map-laid {X = X} f old so_far now n before step =
    step
    ∙ ap (λ (xs : List X). xs ++ f n ∷ []) before
    ∙ append_assoc old (map f (range_with_len 0 n)) (f n ∷ [])
    ∙ ap (λ (xs : List X). old ++ xs) (sym (map-range_with_len_more f 0 n n (omega arith)))
