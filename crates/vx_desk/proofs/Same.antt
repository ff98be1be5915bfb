-- Lists that are compared element by element.
use Rattle.std.proofs.Common.{◌≡◌, ◌≤◌, ◌<◌, ◌+◌, ℕ, suc, Bool, true, false, List, [], ◌∷◌, length, drop, get_or, refl, sym, ap, ap₂, ◌∙◌}
use Rattle.std.specs.Prelude.{◌&&◌}
use Rattle.std.proofs.lemmas.List.{drop_all}
use Rattle.vx_base.proofs.Booleans.{and-no}
use Rattle.vx_desk.specs.Kept.{same_list}
use Rattle.vx_desk.proofs.Steps.{begins}

module _ {X : Type 0} (same : X → X → Bool) where
  -- lists of different lengths are different
  pub lengths_differ : (xs ys : List X) → (length xs ≡ length ys → ⊥) → same_list same xs ys ≡ false
  lengths_differ [] [] differ = absurd (differ refl)
  lengths_differ [] (y ∷ ys) differ = refl
  lengths_differ (x ∷ xs) [] differ = refl
  lengths_differ (x ∷ xs) (y ∷ ys) differ =
      and-no (same x y) (same_list same xs ys) (lengths_differ xs ys (λ is. differ (ap suc is)))

  module _ (xs ys : List X) (i : ℕ) (x y : X) (in_xs : i < length xs) (in_ys : i < length ys) (is_x : x ≡ get_or xs i x) (is_y : y ≡ get_or ys i y) where
    left : same_list same (drop i xs) (drop i ys) ≡ (same x y && same_list same (drop (i + 1) xs) (drop (i + 1) ys))
    left = ap₂ (same_list same) (begins xs i x in_xs is_x) (begins ys i y in_ys is_y)

    pub same_later : same x y ≡ true → same_list same (drop (i + 1) xs) (drop (i + 1) ys) ≡ same_list same (drop i xs) (drop i ys)
    same_later passes = sym (left ∙ ap (λ (b : Bool). b && same_list same (drop (i + 1) xs) (drop (i + 1) ys)) passes)

    pub differ_here : same x y ≡ false → same_list same (drop i xs) (drop i ys) ≡ false
    differ_here other = left ∙ ap (λ (b : Bool). b && same_list same (drop (i + 1) xs) (drop (i + 1) ys)) other

  pub same_end : (xs ys : List X) (i : ℕ) → length xs ≤ i → length ys ≤ i → same_list same (drop i xs) (drop i ys) ≡ true
  same_end xs ys i past_xs past_ys = ap₂ (same_list same) (drop_all i xs past_xs) (drop_all i ys past_ys)
