-- The walk over ascending keys is the walk over all places, where what stands at the other places gives nothing.
use Rattle.std.proofs.Common.{◌≡◌, ℕ, suc, ◌+◌, ◌<◌, ◌≤◌, Bool, true, false, cond, ◌==◌, List, [], ◌∷◌, ◌++◌, length, Some, refl, ap, ap₂, sym, subst, ◌∙◌, arith, append_assoc}
use Rattle.std.specs.Prelude.{filter, nat_le, slice_get}
use Rattle.std.specs.List.{flat_map, AllByRecursion}
use Rattle.std.proofs.lemmas.Bool.Decides.{nat_tests}
use Rattle.vx_audit.specs.Walk.{by_place}
use Rattle.vx_audit.proofs.Filters.{Rises, each_weaker, filter_none, filter_all}

-- what each place gives, from the place of the first on
abbrev pub Gives : {X : Type 0} → (ℕ → X → Type 0) → ℕ → List X → Type 0
Gives P n [] = Unit {0}
Gives P n (x ∷ xs) = P n x × Gives P (n + 1) xs

pub gives-each : {X : Type 0} (P : ℕ → X → Type 0) (n : ℕ) (xs : List X) → ((i : ℕ) (x : X) → slice_get xs i ≡ Some x → P (n + i) x) → Gives P n xs
gives-each P n [] f = tt
gives-each P n (x ∷ xs) f =
    let first : n + 0 ≡ n = omega arith in (
      subst (λ m. P m x) first (f 0 x refl),
      gives-each P (n + 1) xs (λ i y e.
          let at : n + suc i ≡ n + 1 + i = omega arith in
          subst (λ m. P m y) at (f (suc i) y e)),
    )

above : (n k : ℕ) → n < k → nat_le (n + 1) k ≡ true
above n k lt = grind (arith, nat_tests)

module _ {K A : Type 0} (key : K → ℕ) (give : K → List A) where
  -- the keys of a place, and those from it on
  abbrev pub at_place : ℕ → List K → List K
  at_place n ks = filter (λ (k : K). n == key k) ks

  abbrev pub from_place : ℕ → List K → List K
  from_place n ks = filter (λ (k : K). nat_le n (key k)) ks

  split : (n : ℕ) (ks : List K) → Rises (λ (x y : K). key x ≤ key y) ks
      → flat_map give (from_place n ks) ≡ flat_map give (at_place n ks) ++ flat_map give (from_place (n + 1) ks)
  split n [] rises = refl
  split n (k ∷ ks) rises = by (nat_le n (key k)) (n == key k) (nat_le (n + 1) (key k)) refl refl refl (split n ks rises.1)
    where
      none : n < key k → at_place n ks ≡ []
      none lt = filter_none (λ (l : K). n == key l) ks (each_weaker (λ l. key k ≤ key l) (λ l. (n == key l) ≡ false) (λ l le. grind (arith, nat_tests)) ks rises.0)

      by : (b c d : Bool) → nat_le n (key k) ≡ b → (n == key k) ≡ c → nat_le (n + 1) (key k) ≡ d
          → flat_map give (from_place n ks) ≡ flat_map give (at_place n ks) ++ flat_map give (from_place (n + 1) ks)
          → flat_map give (cond b (k ∷ from_place n ks) (from_place n ks))
          ≡ flat_map give (cond c (k ∷ at_place n ks) (at_place n ks)) ++ flat_map give (cond d (k ∷ from_place (n + 1) ks) (from_place (n + 1) ks))
      by false false false e f g rest = rest
      by true true false e f g rest =
          ap (λ (more : List A). give k ++ more) rest ∙ sym (append_assoc (give k) (flat_map give (at_place n ks)) (flat_map give (from_place (n + 1) ks)))
      by true false true e f g rest =
          let lt : n < key k = grind (arith, nat_tests) in
          rw (none lt) (ap (λ (more : List A). give k ++ more) (rest ∙ ap (λ (here : List K). flat_map give here ++ flat_map give (from_place (n + 1) ks)) (none lt)))
      by true true true e f g rest = absurd (grind (arith, nat_tests))
      by true false false e f g rest = absurd (grind (arith, nat_tests))
      by false true true e f g rest = absurd (grind (arith, nat_tests))
      by false true false e f g rest = absurd (grind (arith, nat_tests))
      by false false true e f g rest = absurd (grind (arith, nat_tests))

  none-beyond : (end n : ℕ) → n ≡ end → (ks : List K) → AllByRecursion (λ k. end ≤ key k → give k ≡ []) ks → flat_map give (from_place n ks) ≡ []
  none-beyond end n is [] past = refl
  none-beyond end n is (k ∷ ks) past = by (nat_le n (key k)) refl (none-beyond end n is ks past.1)
    where
      by : (b : Bool) → nat_le n (key k) ≡ b → flat_map give (from_place n ks) ≡ [] → flat_map give (cond b (k ∷ from_place n ks) (from_place n ks)) ≡ []
      by true e rest =
          let le : end ≤ key k = grind (arith, nat_tests) in
          ap₂ (λ (x y : List A). x ++ y) (past.0 le) rest
      by false e rest = rest

  module _ {X : Type 0} (of : ℕ → X → List A) (end : ℕ) (ks : List K) (rises : Rises (λ (x y : K). key x ≤ key y) ks)
      (past : AllByRecursion (λ k. end ≤ key k → give k ≡ []) ks) where
    walk-from : (xs : List X) (n : ℕ) → n + length xs ≡ end → Gives (λ m x. flat_map give (at_place m ks) ≡ of m x) n xs
        → flat_map give (from_place n ks) ≡ by_place of n xs
    walk-from [] n is gives = none-beyond end n (omega (arith, is)) ks past
    walk-from (x ∷ xs) n is gives =
        split n ks rises ∙ ap₂ (λ (y z : List A). y ++ z) gives.0 (walk-from xs (n + 1) (omega (arith, is)) gives.1)

    -- all places are walked
    pub walk : (xs : List X) → length xs ≡ end → ((i : ℕ) (x : X) → slice_get xs i ≡ Some x → flat_map give (at_place i ks) ≡ of i x)
        → flat_map give ks ≡ by_place of 0 xs
    walk xs is gives =
        sym (ap (flat_map give) (filter_all (λ (k : K). nat_le 0 (key k)) ks (each ks)))
        ∙ walk-from xs 0 (omega (arith, is)) (gives-each (λ m x. flat_map give (at_place m ks) ≡ of m x) 0 xs (λ i x e.
        let at : i ≡ 0 + i = omega arith in
        subst (λ m. flat_map give (at_place m ks) ≡ of m x) at (gives i x e)))
      where
        each : (ks : List K) → AllByRecursion (λ k. nat_le 0 (key k) ≡ true) ks
        each [] = tt
        each (k ∷ ks) = (grind (arith, nat_tests), each ks)
