-- The most of what each element gives.
use Rattle.std.proofs.Common.{◌≡◌, ℕ, ◌+◌, ◌<◌, List, [], ◌∷◌, ◌++◌, length, take, get_or, ap, sym, ◌∙◌, max, append-nil}
use Rattle.std.specs.Prelude.{fold}
use Rattle.std.specs.List.{flat_map}
use Rattle.std.proofs.lemmas.List.{take_more}
use Rattle.std.proofs.lemmas.List.Concat.{flat_map-append}
use Rattle.std.proofs.lemmas.List.Sums.{fold-append}

-- the loop's step: the most so far, and what one element more gives
pub most_step : {X : Type 0} (f : X → List ℕ) (xs : List X) (i : ℕ) (d : X) → i < length xs → (before now : ℕ)
    → before ≡ fold max 0 (flat_map f (take i xs)) → now ≡ fold max before (f (get_or xs i d)) → now ≡ fold max 0 (flat_map f (take (i + 1) xs))
most_step {X = X} f xs i d within before now so_far step =
    step
    ∙ ap (λ (n : ℕ). fold max n (f (get_or xs i d))) so_far
    ∙ sym (ap (λ (ys : List X). fold max 0 (flat_map f ys)) (take_more xs i d within)
    ∙ ap (fold max 0) (flat_map-append f (take i xs) (get_or xs i d ∷ []))
    ∙ ap (λ (ys : List ℕ). fold max 0 (flat_map f (take i xs) ++ ys)) (append-nil (f (get_or xs i d)))
    ∙ fold-append max 0 (flat_map f (take i xs)) (f (get_or xs i d)))
