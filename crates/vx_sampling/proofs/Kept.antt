-- What a filter keeps.
use Rattle.std.proofs.Common.{◌≡◌, ℕ, ◌<◌, get_or, arith, Bool, cond, true, false, List, [], ◌∷◌, map, refl, ap, ap₂, sym, ◌∙◌}
use Rattle.std.specs.Prelude.{All, filter, slice_index}
use Rattle.std.specs.List.{range_with_len}
use Rattle.std.proofs.lemmas.List.FromFn.{get_or-map-range_with_len, get_or-range_with_len, length-map-range_with_len, length-range_with_len}
use Rattle.vx_sampling.specs.Sides.{choices_where}
use Rattle.vx_sampling.specs.Standing.{is_as, votes_where, wins}
use Rattle.std.proofs.lemmas.List.Elements.{All-head, All-tail}

pub filter-map : {X Y : Type 0} (p : Y → Bool) (f : X → Y) (xs : List X) → filter p (map f xs) ≡ map f (filter (λ x. p (f x)) xs)
filter-map p f [] = refl
filter-map p f (x ∷ xs) = by (p (f x)) (filter-map p f xs)
  where
    by : (b : Bool) → filter p (map f xs) ≡ map f (filter (λ x. p (f x)) xs)
        → cond b (f x ∷ filter p (map f xs)) (filter p (map f xs)) ≡ map f (cond b (x ∷ filter (λ x. p (f x)) xs) (filter (λ x. p (f x)) xs))
    by true rest = ap (λ ys. f x ∷ ys) rest
    by false rest = rest

pub filter-alike : {X : Type 0} (p q : X → Bool) (xs : List X) → All (λ x. p x ≡ q x) xs → filter p xs ≡ filter q xs
filter-alike p q [] alike = refl
filter-alike p q (x ∷ xs) alike =
    ap₂ (λ (b : Bool) (rest : List _). cond b (x ∷ rest) rest) (All-head (λ x. p x ≡ q x) x xs alike)
    (filter-alike p q xs (All-tail (λ x. p x ≡ q x) x xs alike))

module _ (total : ℕ → ℕ) (count seats : ℕ) (winning : Bool) where
  abbrev voted : List ℕ
  voted = map total (range_with_len 0 count)

  abbrev stands : ℕ → Bool
  stands own = is_as winning (wins seats voted own)

  alike : All (λ choice. stands (slice_index voted choice) ≡ stands (total choice)) (range_with_len 0 count)
  alike k d within =
      let few : k < count = omega (arith, within, length-range_with_len 0 count) in
      let at : get_or (range_with_len 0 count) k d ≡ k = omega (arith, get_or-range_with_len 0 count k d few) in
      ap stands
      (ap (slice_index voted) at ∙ get_or-map-range_with_len total 0 count k k 0 few (omega arith) ∙ ap total (sym at))

  -- the votes of the choices that stand so are the votes that do
  pub choices-votes : map total (choices_where seats voted winning) ≡ votes_where seats voted winning
  choices-votes =
      ap (λ (n : ℕ). map total (filter (λ choice. stands (slice_index voted choice)) (range_with_len 0 n))) (length-map-range_with_len total 0 count)
      ∙ ap (map total)
      (filter-alike (λ choice. stands (slice_index voted choice)) (λ choice. stands (total choice)) (range_with_len 0 count) alike)
      ∙ sym (filter-map stands total (range_with_len 0 count))
