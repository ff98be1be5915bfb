-- The ids at ascending places are, in their order, those whose place is among the places.
use Rattle.std.proofs.Common.{◌≡◌, ◌⊎◌, inl, inr, ℕ, ◌<◌, ◌≤◌, Bool, true, false, cond, ◌==◌, List, [], ◌∷◌, length, refl, ap, sym, subst, Some, ◌∙◌, arith, append-nil}
use Rattle.std.specs.Prelude.{filter, slice_get}
use Rattle.std.specs.List.{flat_map, list_any, AllByRecursion}
use Rattle.std.specs.Option.{option_to_list}
use Rattle.std.specs.Ordering.{nat_cmp}
use Rattle.std.specs.declared.cmp.Ordering.TheVariants.{Less}
use Rattle.std.proofs.lemmas.Bool.Decides.{nat_tests}
use Rattle.std.proofs.lemmas.Cmp.{nat_eq_equiv}
use Rattle.std.proofs.lemmas.Map.Views.{Contains-from_any, list_any-from_Contains, exact_unsigned_eq}
use Rattle.std.proofs.lemmas.Option.{slice_get_past}
use Rattle.vx_base.proofs.Numbers.{equal-from_yes}
use Rattle.vx_audit.specs.Ascending.{IsAscending, ids_at}
use Rattle.vx_audit.specs.Pairs.{where_among}
use Rattle.vx_audit.specs.Walk.{by_place}
use Rattle.vx_audit.proofs.Filters.{Rises, each_passes, rises_filter, rises-sorted, at_most_one}
use Rattle.vx_audit.proofs.Sparse.{at_place, walk}

any-none : {K : Type 0} (p : K → Bool) (ks : List K) → filter p ks ≡ [] → list_any p ks ≡ false
any-none p [] e = refl
any-none p (k ∷ ks) e = by (p k) refl e (any-none p ks)
  where
    by : (b : Bool) → p k ≡ b → cond b (k ∷ filter p ks) (filter p ks) ≡ [] → (filter p ks ≡ [] → list_any p ks ≡ false) → list_any p (k ∷ ks) ≡ false
    by true is f rest = absurd cc
    by false is f rest = rw is (rest f)

any-one : {K : Type 0} (p : K → Bool) (ks : List K) (x : K) (xs : List K) → filter p ks ≡ x ∷ xs → list_any p ks ≡ true
any-one p [] x xs e = absurd cc
any-one p (k ∷ ks) x xs e = by (p k) refl e (any-one p ks x xs)
  where
    by : (b : Bool) → p k ≡ b → cond b (k ∷ filter p ks) (filter p ks) ≡ x ∷ xs → (filter p ks ≡ x ∷ xs → list_any p ks ≡ true) → list_any p (k ∷ ks) ≡ true
    by true is f rest = rw is refl
    by false is f rest = rw is (rest f)

above : (x y : ℕ) → nat_cmp x y ≡ Less → x < y
above x y less = grind (arith, nat_tests)

-- the same numbers are found
pub same-any : (places sorted : List ℕ) → IsAscending places sorted → (place : ℕ) → list_any (λ other. place == other) sorted ≡ list_any (λ other. place == other) places
same-any places sorted ascending place = by (list_any (λ other. place == other) sorted) (list_any (λ other. place == other) places) refl refl
  where
    there : list_any (λ other. place == other) sorted ≡ true → list_any (λ other. place == other) places ≡ true
    there e =
        list_any-from_Contains nat_eq_equiv place places
        ((ascending.same place).0 (Contains-from_any exact_unsigned_eq place sorted e))

    back : list_any (λ other. place == other) places ≡ true → list_any (λ other. place == other) sorted ≡ true
    back e =
        list_any-from_Contains nat_eq_equiv place sorted
        ((ascending.same place).1 (Contains-from_any exact_unsigned_eq place places e))

    by : (b c : Bool) → list_any (λ other. place == other) sorted ≡ b → list_any (λ other. place == other) places ≡ c
        → list_any (λ other. place == other) sorted ≡ list_any (λ other. place == other) places
    by true c e f = e ∙ sym (there e)
    by false true e f = back f ∙ sym f
    by false false e f = e ∙ sym f

module _ (ids : List (List ℕ)) (places sorted : List ℕ) (ascending : IsAscending places sorted) where
  abbrev give : ℕ → List (List ℕ)
  give place = option_to_list (slice_get ids place)

  abbrev here : ℕ → List ℕ
  here place = at_place (λ (k : ℕ). k) give place sorted

  up : Rises (λ (x y : ℕ). x < y) sorted
  up = rises-sorted nat_cmp (λ (x y : ℕ). x < y) above sorted ascending.ordered

  once : (place : ℕ) → Rises (λ (x y : ℕ). ⊥) (here place)
  once place =
      rises_filter (λ (k : ℕ). place == k) (λ (x y : ℕ). x < y) (λ (x y : ℕ). ⊥)
      (λ x y at there lt. omega (arith, equal-from_yes place x at, equal-from_yes place y there)) sorted up

  at-id : (place : ℕ) (id : List ℕ) → slice_get ids place ≡ Some id → flat_map give (here place) ≡ where_among places place id
  at-id place id is = by (at_most_one (here place) (once place))
    where
      by : (here place ≡ []) ⊎ ((k : ℕ) × (here place ≡ k ∷ [])) → flat_map give (here place) ≡ where_among places place id
      by (inl none) = rw none (rw (sym (same-any places sorted ascending place) ∙ any-none (λ other. place == other) sorted none) refl)
      by (inr (k, one)) =
          let found = any-one (λ other. place == other) sorted k [] one in
          let passes = subst (AllByRecursion (λ (x : ℕ). (place == x) ≡ true)) one (each_passes (λ (x : ℕ). place == x) sorted) in
          ap (flat_map give) one ∙ append-nil (give k) ∙ ap give (sym (equal-from_yes place k passes.0)) ∙ ap option_to_list is
          ∙ ap (λ b. cond b (id ∷ []) []) (sym (sym (same-any places sorted ascending place) ∙ found))

  pub all-marked : ids_at ids sorted ≡ by_place (where_among places) 0 ids
  all-marked =
      walk (λ (k : ℕ). k) give (where_among places) (length ids) sorted
      (rises-sorted nat_cmp (λ (x y : ℕ). x ≤ y) (λ x y less. omega (arith, above x y less)) sorted ascending.ordered)
      (past sorted) ids refl at-id
    where
      past : (ks : List ℕ) → AllByRecursion (λ k. length ids ≤ k → give k ≡ []) ks
      past [] = tt
      past (k ∷ ks) = (λ le. ap option_to_list (slice_get_past ids k le), past ks)
