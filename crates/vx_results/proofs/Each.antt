-- What holds of each element of a list.
use Rattle.std.proofs.Common.{ap, subst, ◌≡◌, ℕ, suc, Bool, true, List, [], ◌∷◌, ◌++◌, length, map, fold, refl, arith}
use Rattle.std.specs.Prelude.{Some, slice_get}
use Rattle.std.specs.List.{AllByRecursion, All, flat_map, list_all}
use Rattle.std.proofs.lemmas.List.Elements.{All-cons, All-nil}
use Rattle.std.proofs.lemmas.Option.{get_or_from_slice_get, slice_get_within}
use Rattle.vx_base.proofs.Booleans.{and-left, and-right}

module _ {X : Type 0} where
  -- what holds at each place
  pub each-at : (P : X → Type 0) (xs : List X) → ((place : ℕ) (x : X) → slice_get xs place ≡ Some x → P x) → AllByRecursion P xs
  each-at P [] at = tt
  each-at P (x ∷ xs) at = (at 0 x refl, each-at P xs (λ place y there. at (suc place) y there))

  pub each-all : (P : X → Type 0) (xs : List X) → All P xs → AllByRecursion P xs
  each-all P [] all = tt
  each-all P (x ∷ xs) all = (all 0 x (omega arith), each-all P xs (λ k d lt. all (suc k) d (omega (arith, lt))))

  pub all-each : (P : X → Type 0) (xs : List X) → AllByRecursion P xs → All P xs
  all-each P [] each = All-nil P
  all-each P (x ∷ xs) each = All-cons P x xs each.0 (all-each P xs each.1)

  -- what holds of the element at a place
  pub each-there : (P : X → Type 0) (xs : List X) (place : ℕ) (x : X) → AllByRecursion P xs → slice_get xs place ≡ Some x → P x
  each-there P xs place x each there =
      subst P (get_or_from_slice_get xs place x x there) (all-each P xs each place x (slice_get_within xs place x there))

  pub each-test : (p : X → Bool) (xs : List X) → list_all p xs ≡ true → AllByRecursion (λ (x : X). p x ≡ true) xs
  each-test p [] all = tt
  each-test p (x ∷ xs) all = (and-left (p x) (list_all p xs) all, each-test p xs (and-right (p x) (list_all p xs) all))

  pub each-weaker : (P Q : X → Type 0) (xs : List X) → ((x : X) → P x → Q x) → AllByRecursion P xs → AllByRecursion Q xs
  each-weaker P Q [] to each = tt
  each-weaker P Q (x ∷ xs) to each = (to x each.0, each-weaker P Q xs to each.1)

  pub each-any : (P : X → Type 0) (xs : List X) → ((x : X) → P x) → AllByRecursion P xs
  each-any P [] all = tt
  each-any P (x ∷ xs) all = (all x, each-any P xs all)

  pub each-append : (P : X → Type 0) (xs ys : List X) → AllByRecursion P xs → AllByRecursion P ys → AllByRecursion P (xs ++ ys)
  each-append P [] ys first second = second
  each-append P (x ∷ xs) ys first second = (first.0, each-append P xs ys first.1 second)

module _ {X Y : Type 0} where
  pub length-mapped : (f : X → Y) (xs : List X) → length (map f xs) ≡ length xs
  length-mapped f [] = refl
  length-mapped f (x ∷ xs) = ap (λ (n : ℕ). suc n) (length-mapped f xs)

  pub each-map : (P : Y → Type 0) (f : X → Y) (xs : List X) → AllByRecursion (λ (x : X). P (f x)) xs → AllByRecursion P (map f xs)
  each-map P f [] each = tt
  each-map P f (x ∷ xs) each = (each.0, each-map P f xs each.1)

  pub each-flat_map : (P : Y → Type 0) (f : X → List Y) (xs : List X) → AllByRecursion (λ (x : X). AllByRecursion P (f x)) xs
      → AllByRecursion P (flat_map f xs)
  each-flat_map P f [] each = tt
  each-flat_map P f (x ∷ xs) each = each-append P (f x) (flat_map f xs) each.0 (each-flat_map P f xs each.1)

  -- what is kept from one to the next holds at the end
  pub fold-keeps : (P : Y → Type 0) (Q : X → Type 0) (f : Y → X → Y) (xs : List X) (y : Y) → ((z : Y) (x : X) → P z → Q x → P (f z x)) → P y
      → AllByRecursion Q xs → P (fold f y xs)
  fold-keeps P Q f [] y step first each = first
  fold-keeps P Q f (x ∷ xs) y step first each = fold-keeps P Q f xs (f y x) step (step y x first each.0) each.1
