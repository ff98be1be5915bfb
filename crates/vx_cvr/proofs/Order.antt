-- Two lists in order that hold the same elements are one list.
use Rattle.std.proofs.Common.{◌≡◌, ℕ, zero, suc, ◌+◌, ◌≤◌, ◌<◌, Bool, true, false, cond, List, [], ◌∷◌, length, get_or, refl, sym, ap, ap₂, ◌∙◌, arith}
use Rattle.std.specs.Prelude.{All}
use Rattle.std.specs.List.{sum_by}
use Rattle.std.specs.Cmp.{IsStrictWeakOrder}
use Rattle.std.specs.List.Sorted.{IsSortedBy}
use Rattle.std.proofs.lemmas.List.Sorted.{sorted_far}
use Rattle.std.proofs.lemmas.List.Elements.{All-head, All-tail, All-cons, All-nil, All-from_get_or}
use Rattle.std.proofs.lemmas.List.Sums.{sum_by-cons}

module _ {X : Type 0} (lt : X → X → Bool) (order : IsStrictWeakOrder lt) where
  -- no element is less than one before it
  abbrev pub Ascends : List X → Type 0
  Ascends [] = Unit {0}
  Ascends (x ∷ xs) = All (λ y. lt y x ≡ false) xs × Ascends xs

  -- both hold each element as often
  abbrev pub Same : List X → List X → Type 0
  Same xs ys = (f : X → ℕ) → sum_by f xs ≡ sum_by f ys

  abbrev one_if_below : X → X → ℕ
  one_if_below y x = cond (lt x y) 1 0

  pub not_itself : (x : X) → lt x x ≡ false
  not_itself x = by (lt x x) refl
    where
      by : (b : Bool) → lt x x ≡ b → lt x x ≡ false
      by true is = order.one_way x x is
      by false is = is

  none_below : (y : X) (xs : List X) → All (λ x. lt x y ≡ false) xs → sum_by (one_if_below y) xs ≡ 0
  none_below y [] none = refl
  none_below y (x ∷ xs) none =
      let first : one_if_below y x ≡ 0 = ap (λ (b : Bool). cond b 1 0) (All-head (λ x. lt x y ≡ false) x xs none) in
      let rest : sum_by (one_if_below y) xs ≡ 0 = none_below y xs (All-tail (λ x. lt x y ≡ false) x xs none) in
      omega (arith, sum_by-cons (one_if_below y) x xs, first, rest)

  first_not_below : (y x : X) (xs : List X) → sum_by (one_if_below y) (x ∷ xs) ≡ 0 → lt x y ≡ false
  first_not_below y x xs none = by (lt x y) refl
    where
      by : (b : Bool) → lt x y ≡ b → lt x y ≡ false
      by true is =
          let one : one_if_below y x ≡ 1 = ap (λ (b : Bool). cond b 1 0) is in
          absurd (omega (arith, none, sum_by-cons (one_if_below y) x xs, one))
      by false is = is

  pub unique :
      (P : X → Type 0) → ((x y : X) → P x → P y → lt x y ≡ false → lt y x ≡ false → x ≡ y)
      → (xs ys : List X) → Ascends xs → Ascends ys → All P xs → All P ys → Same xs ys → xs ≡ ys
  unique P tied [] [] up_x up_y all_x all_y same = refl
  unique P tied [] (y ∷ ys) up_x up_y all_x all_y same = absurd (omega (arith, same (λ z. 1), sum_by-cons (λ (z : X). 1) y ys))
  unique P tied (x ∷ xs) [] up_x up_y all_x all_y same = absurd (omega (arith, same (λ z. 1), sum_by-cons (λ (z : X). 1) x xs))
  unique P tied (x ∷ xs) (y ∷ ys) up_x up_y all_x all_y same =
      let none_y : sum_by (one_if_below y) (y ∷ ys) ≡ 0 = none_below y (y ∷ ys) (All-cons (λ z. lt z y ≡ false) y ys (not_itself y) up_y.0) in
      let none_x : sum_by (one_if_below x) (x ∷ xs) ≡ 0 = none_below x (x ∷ xs) (All-cons (λ z. lt z x ≡ false) x xs (not_itself x) up_x.0) in
      let equal : x ≡ y =
      tied x y (All-head P x xs all_x) (All-head P y ys all_y)
      (first_not_below y x xs (same (one_if_below y) ∙ none_y))
      (first_not_below x y ys (sym (same (one_if_below x)) ∙ none_x)) in
      let rest : Same xs ys = λ f. (let first : f x ≡ f y = ap f equal in omega (arith, same f, sum_by-cons f x xs, sum_by-cons f y ys, first)) in
      ap₂ (λ z zs. z ∷ zs) equal (unique P tied xs ys up_x.1 up_y.1 (All-tail P x xs all_x) (All-tail P y ys all_y) rest)

  ascends_far : (xs : List X) → ((i j : ℕ) (d : X) → i ≤ j → j < length xs → lt (get_or xs j d) (get_or xs i d) ≡ false) → Ascends xs
  ascends_far [] far = tt
  ascends_far (x ∷ xs) far = (
    All-from_get_or (λ y. lt y x ≡ false) xs x (λ i less. far 0 (suc i) x (omega arith) (omega arith)),
    ascends_far xs (λ i j d up less. far (suc i) (suc j) d (omega arith) (omega arith)),
  )

  pub ascends : (xs : List X) → IsSortedBy lt xs → Ascends xs
  ascends xs sorted = ascends_far xs (sorted_far lt order xs sorted)
