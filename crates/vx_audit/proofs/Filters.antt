-- Filters, and lists whose elements stand in an order.
use Rattle.std.proofs.Common.{◌≡◌, ◌⊎◌, inl, inr, Bool, true, false, cond, ◌&&◌, List, [], ◌∷◌, refl, ap}
use Rattle.std.specs.Prelude.{filter}
use Rattle.std.specs.List.{AllByRecursion}
use Rattle.std.specs.List.Sorted.{IsStrictlySortedBy}
use Rattle.std.specs.declared.cmp.Ordering.{Ordering}
use Rattle.std.specs.declared.cmp.Ordering.TheVariants.{Less}
use Rattle.std.proofs.lemmas.Map.Keys.{sorted_head, sorted_tail}

-- each element and any behind it are so
abbrev pub Rises : {K : Type 0} → (K → K → Type 0) → List K → Type 0
Rises R [] = Unit {0}
Rises R (k ∷ ks) = AllByRecursion (R k) ks × Rises R ks

module _ {K : Type 0} where
  pub each_weaker : (P Q : K → Type 0) → ((k : K) → P k → Q k) → (ks : List K) → AllByRecursion P ks → AllByRecursion Q ks
  each_weaker P Q f [] all = tt
  each_weaker P Q f (k ∷ ks) all = (f k all.0, each_weaker P Q f ks all.1)

  pub each_filter : (p : K → Bool) (P Q : K → Type 0) → ((k : K) → p k ≡ true → P k → Q k) → (ks : List K) → AllByRecursion P ks
      → AllByRecursion Q (filter p ks)
  each_filter p P Q f [] all = tt
  each_filter p P Q f (k ∷ ks) all = by (p k) refl (each_filter p P Q f ks all.1)
    where
      by : (b : Bool) → p k ≡ b → AllByRecursion Q (filter p ks) → AllByRecursion Q (cond b (k ∷ filter p ks) (filter p ks))
      by true e rest = (f k e all.0, rest)
      by false e rest = rest

  pub each_passes : (p : K → Bool) (ks : List K) → AllByRecursion (λ k. p k ≡ true) (filter p ks)
  each_passes p [] = tt
  each_passes p (k ∷ ks) = by (p k) refl (each_passes p ks)
    where
      by : (b : Bool) → p k ≡ b → AllByRecursion (λ k. p k ≡ true) (filter p ks) → AllByRecursion (λ k. p k ≡ true) (cond b (k ∷ filter p ks) (filter p ks))
      by true e rest = (e, rest)
      by false e rest = rest

  pub rises_filter : (p : K → Bool) (R S : K → K → Type 0) → ((x y : K) → p x ≡ true → p y ≡ true → R x y → S x y) → (ks : List K) → Rises R ks
      → Rises S (filter p ks)
  rises_filter p R S f [] rises = tt
  rises_filter p R S f (k ∷ ks) rises = by (p k) refl (rises_filter p R S f ks rises.1)
    where
      by : (b : Bool) → p k ≡ b → Rises S (filter p ks) → Rises S (cond b (k ∷ filter p ks) (filter p ks))
      by true e rest = (each_filter p (R k) (S k) (λ x passes r. f k x e passes r) ks rises.0, rest)
      by false e rest = rest

  pub rises_weaker : (R S : K → K → Type 0) → ((x y : K) → R x y → S x y) → (ks : List K) → Rises R ks → Rises S ks
  rises_weaker R S f [] rises = tt
  rises_weaker R S f (k ∷ ks) rises = (each_weaker (R k) (S k) (f k) ks rises.0, rises_weaker R S f ks rises.1)

  pub rises-sorted : (cmp : K → K → Ordering) (R : K → K → Type 0) → ((x y : K) → cmp x y ≡ Less → R x y) → (ks : List K) → IsStrictlySortedBy cmp ks
      → Rises R ks
  rises-sorted cmp R f [] sorted = tt
  rises-sorted cmp R f (k ∷ ks) sorted =
      (each_weaker (λ x. cmp k x ≡ Less) (R k) (f k) ks (sorted_head cmp k ks sorted), rises-sorted cmp R f ks (sorted_tail cmp k ks sorted))

  -- where no two may stand, there is at most one
  pub at_most_one : (ks : List K) → Rises (λ (x y : K). ⊥) ks → (ks ≡ []) ⊎ ((k : K) × (ks ≡ k ∷ []))
  at_most_one [] rises = inl refl
  at_most_one (k ∷ []) rises = inr (k, refl)
  at_most_one (k ∷ l ∷ ks) rises = absurd rises.0.0

  pub filter_none : (p : K → Bool) (ks : List K) → AllByRecursion (λ k. p k ≡ false) ks → filter p ks ≡ []
  filter_none p [] all = refl
  filter_none p (k ∷ ks) all = rw all.0 (filter_none p ks all.1)

  pub filter_all : (p : K → Bool) (ks : List K) → AllByRecursion (λ k. p k ≡ true) ks → filter p ks ≡ ks
  filter_all p [] all = refl
  filter_all p (k ∷ ks) all = rw all.0 (ap (λ (rest : List K). k ∷ rest) (filter_all p ks all.1))

  pub none_filtered : (p : K → Bool) (ks : List K) → filter p ks ≡ [] → AllByRecursion (λ k. p k ≡ false) ks
  none_filtered p [] e = tt
  none_filtered p (k ∷ ks) e = by (p k) refl e (none_filtered p ks)
    where
      by : (b : Bool) → p k ≡ b → cond b (k ∷ filter p ks) (filter p ks) ≡ [] → (filter p ks ≡ [] → AllByRecursion (λ k. p k ≡ false) ks)
          → AllByRecursion (λ k. p k ≡ false) (k ∷ ks)
      by true e f rest = absurd cc
      by false e f rest = (e, rest f)

  pub filter-filter : (p q : K → Bool) (ks : List K) → filter q (filter p ks) ≡ filter (λ k. p k && q k) ks
  filter-filter p q [] = refl
  filter-filter p q (k ∷ ks) = by (p k) (q k) refl (filter-filter p q ks)
    where
      by : (b c : Bool) → q k ≡ c → filter q (filter p ks) ≡ filter (λ k. p k && q k) ks
          → filter q (cond b (k ∷ filter p ks) (filter p ks)) ≡ cond (b && c) (k ∷ filter (λ k. p k && q k) ks) (filter (λ k. p k && q k) ks)
      by true true e rest = rw e (ap (λ (others : List K). k ∷ others) rest)
      by true false e rest = rw e rest
      by false true e rest = rest
      by false false e rest = rest
