-- A list that is written anew from the front on: what stands in front is of one map, what is left of another.
use Rattle.std.proofs.Common.{◌≡◌, ◌+◌, ◌-◌, ◌<◌, ◌≤◌, ◌∙◌, ℕ, suc, List, [], ◌∷◌, ◌++◌, length, map, take, drop, set, get_or, ap, ap₂, sym, arith, add-one, drop-cons}
use Rattle.std.specs.Prelude.{Some, slice_get}
use Rattle.std.proofs.lemmas.List.{drop-set-lt, length-drop, length-map, map_more, take_all, take_more_set}
use Rattle.std.proofs.lemmas.Option.{get_or_from_slice_get, slice_get_within}
use Rattle.vx_base.proofs.Lists.{left-from}

module _ {X Y : Type 0} (before : X → Y) (xs : List X) (ys : List Y) (i : ℕ) (left : drop i ys ≡ map before (drop i xs)) where
  as_many_left : length ys - i ≡ length xs - i
  as_many_left =
      omega (arith, ap (λ (some : List Y). length some) left, length-drop i ys, length-drop i xs, length-map (drop i xs) before)

  pub inside : i < length xs → i < length ys
  inside less = omega (arith, less, as_many_left)

  -- what stands at the place, and what is left behind it
  module _ (x : X) (there : slice_get xs i ≡ Some x) where
    parts : (d : Y) → get_or ys i d ∷ drop (suc i) ys ≡ before x ∷ map before (drop (i + 1) xs)
    parts d =
        sym (drop-cons ys i d (inside (slice_get_within xs i x there)))
        ∙ left
        ∙ ap (λ (some : List X). map before some) (left-from xs i x there)

    pub here : (d : Y) → get_or ys i d ≡ before x
    here d = ap (λ (some : List Y). get_or some 0 d) (parts d)

    pub behind : drop (i + 1) ys ≡ map before (drop (i + 1) xs)
    behind = ap (λ (n : ℕ). drop n ys) (add-one i) ∙ ap (λ (some : List Y). drop 1 some) (parts (before x))

    pub taken-out : (y : Y) → slice_get ys i ≡ Some y → y ≡ before x
    taken-out y stands = sym (get_or_from_slice_get ys i y y stands) ∙ here y

    pub left-behind : (y : Y) → drop (i + 1) (set ys i y) ≡ map before (drop (i + 1) xs)
    left-behind y = drop-set-lt (i + 1) ys i y (omega arith) ∙ behind

  module _ (now : X → Y) (front : take i ys ≡ map now (take i xs)) where
    -- one element more
    pub front-more : (x : X) (y : Y) → slice_get xs i ≡ Some x → y ≡ now x → take (i + 1) (set ys i y) ≡ map now (take (i + 1) xs)
    front-more x y there is =
        take_more_set ys i y (inside (slice_get_within xs i x there))
        ∙ ap₂ (λ (some : List Y) (one : Y). some ++ one ∷ []) front (is ∙ ap now (sym (get_or_from_slice_get xs i x x there)))
        ∙ sym (map_more now xs i x (slice_get_within xs i x there))

    pub all-new : length xs ≤ i → ys ≡ map now xs
    all-new end =
        sym (take_all i ys (omega (arith, end, as_many_left)))
        ∙ front
        ∙ ap (λ (some : List X). map now some) (take_all i xs end)
