-- What passes at one place alone.
use Rattle.std.proofs.Common.{◌≡◌, ℕ, zero, suc, Bool, true, false, cond, List, [], ◌∷◌, map, refl, ap, ◌∙◌}
use Rattle.std.specs.Prelude.{filter, Some, slice_get}
use Rattle.std.proofs.lemmas.Option.{same_Some}

-- what stands at a place of what was made of a list
pub record IsMadeAt {A B : Type 0} (f : A → B) (xs : List A) (place : ℕ) (y : B) : Type 0 where
  pub of : A
  pub there : slice_get xs place ≡ Some of
  pub is : f of ≡ y

pub made_at : {A B : Type 0} (f : A → B) (xs : List A) (place : ℕ) (y : B) → slice_get (map f xs) place ≡ Some y → IsMadeAt f xs place y
made_at f [] place y there = absurd cc
made_at f (x ∷ xs) zero y there = record { of = x; there = refl; is = same_Some (f x) y there }
made_at f (x ∷ xs) (suc place) y there =
    let rest = made_at f xs place y there in
    record { of = rest.of; there = rest.there; is = rest.is }

module _ {X : Type 0} (test : X → Bool) where
  none_pass : (xs : List X) → ((n : ℕ) (x : X) → slice_get xs n ≡ Some x → test x ≡ true → ⊥) → filter test xs ≡ []
  none_pass [] none = refl
  none_pass (x ∷ xs) none = by (test x) refl (none_pass xs (λ n y there. none (suc n) y there))
    where
      by : (b : Bool) → test x ≡ b → filter test xs ≡ [] → cond b (x ∷ filter test xs) (filter test xs) ≡ []
      by true is rest = absurd (none 0 x refl is)
      by false is rest = rest

  -- what alone passes is all that is left
  pub alone : (xs : List X) (place : ℕ) (x : X) → slice_get xs place ≡ Some x → test x ≡ true
      → ((n : ℕ) (y : X) → slice_get xs n ≡ Some y → test y ≡ true → n ≡ place) → filter test xs ≡ x ∷ []
  alone [] place x there passes only = absurd cc
  alone (z ∷ xs) zero x there passes only =
      by (test z) (ap test (same_Some z x there) ∙ passes)
      (none_pass xs (λ n y at is. absurd (later n (only (suc n) y at is))))
    where
      later : (n : ℕ) → suc n ≡ zero → ⊥
      later n is = cc

      by : (b : Bool) → b ≡ true → filter test xs ≡ [] → cond b (z ∷ filter test xs) (filter test xs) ≡ x ∷ []
      by true is rest = ap (λ (ys : List X). z ∷ ys) rest ∙ ap (λ (y : X). y ∷ []) (same_Some z x there)
      by false is rest = absurd cc
  alone (z ∷ xs) (suc place) x there passes only =
      by (test z) refl (alone xs place x there passes (λ n y at is. before n (only (suc n) y at is)))
    where
      before : (n : ℕ) → suc n ≡ suc place → n ≡ place
      before n is = cc

      by : (b : Bool) → test z ≡ b → filter test xs ≡ x ∷ [] → cond b (z ∷ filter test xs) (filter test xs) ≡ x ∷ []
      by true is rest = absurd (first (only zero z refl is))
        where
          first : zero ≡ suc place → ⊥
          first is = cc
      by false is rest = rest

  -- where nothing is left, nothing passes
  nothing : (xs : List X) → filter test xs ≡ [] → (place : ℕ) (x : X) → slice_get xs place ≡ Some x → test x ≡ true → ⊥
  nothing [] empty place x there passes = cc
  nothing (z ∷ xs) empty zero x there passes = by (test z) (ap test (same_Some z x there) ∙ passes) empty
    where
      by : (b : Bool) → b ≡ true → cond b (z ∷ filter test xs) (filter test xs) ≡ [] → ⊥
      by true is none = cc
      by false is none = cc
  nothing (z ∷ xs) empty (suc place) x there passes = by (test z) empty (λ none. nothing xs none place x there passes)
    where
      by : (b : Bool) → cond b (z ∷ filter test xs) (filter test xs) ≡ [] → (filter test xs ≡ [] → ⊥) → ⊥
      by true none go = cc
      by false none go = go none

  -- where one is left, no two places pass
  pub one_place : (xs : List X) (one : X) → filter test xs ≡ one ∷ [] → (place further : ℕ) (x y : X)
      → slice_get xs place ≡ Some x → slice_get xs further ≡ Some y → test x ≡ true → test y ≡ true → place ≡ further
  one_place [] one left place further x y at_x at_y is_x is_y = absurd cc
  one_place (z ∷ xs) one left zero zero x y at_x at_y is_x is_y = refl
  one_place (z ∷ xs) one left zero (suc further) x y at_x at_y is_x is_y =
      absurd (by (test z) (ap test (same_Some z x at_x) ∙ is_x) left (λ none. nothing xs none further y at_y is_y))
    where
      by : (b : Bool) → b ≡ true → cond b (z ∷ filter test xs) (filter test xs) ≡ one ∷ [] → (filter test xs ≡ [] → ⊥) → ⊥
      by true is some go = go cc
      by false is some go = cc
  one_place (z ∷ xs) one left (suc place) zero x y at_x at_y is_x is_y =
      absurd (by (test z) (ap test (same_Some z y at_y) ∙ is_y) left (λ none. nothing xs none place x at_x is_x))
    where
      by : (b : Bool) → b ≡ true → cond b (z ∷ filter test xs) (filter test xs) ≡ one ∷ [] → (filter test xs ≡ [] → ⊥) → ⊥
      by true is some go = go cc
      by false is some go = cc
  one_place (z ∷ xs) one left (suc place) (suc further) x y at_x at_y is_x is_y =
      ap suc
      (by (test z) left (λ none. absurd (nothing xs none place x at_x is_x)) (λ some. one_place xs one some place further x y at_x at_y is_x is_y))
    where
      by : (b : Bool) → cond b (z ∷ filter test xs) (filter test xs) ≡ one ∷ [] → (filter test xs ≡ [] → place ≡ further)
          → (filter test xs ≡ one ∷ [] → place ≡ further) → place ≡ further
      by true some none go = none cc
      by false some none go = go some
