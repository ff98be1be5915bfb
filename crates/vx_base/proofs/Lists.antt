-- Lists, their maps, and lists of lists one after another.
use Rattle.std.proofs.Common.{◌≡◌, ◌⊎◌, inl, inr, ℕ, zero, suc, ◌+◌, ◌*◌, ◌≤◌, ◌<◌, Bool, true, false, cond, List, [], ◌∷◌, ◌++◌, length, take, drop, map, get_or, refl, ap, ap₂, sym, ◌∙◌, arith, length-append, append-nil, append_assoc, drop-cons, add-one}
use Rattle.std.specs.Prelude.{All, find, slice_get, Some}
use Rattle.std.specs.List.{AllZip, flat_map}
use Rattle.std.proofs.Math.Seq.{take-append_seam, drop-append_seam}
use Rattle.std.proofs.lemmas.List.{map-append, take_more}
use Rattle.std.proofs.lemmas.List.Concat.{flat_map-append}
use Rattle.std.proofs.lemmas.List.Elements.{All-nil, All-cons, All-head, All-tail, All-append}
use Rattle.std.proofs.lemmas.Option.{same_Some, slice_get_within, get_or_from_slice_get}

-- the front part of a list and the rest, by their lengths
pub take-front : {X : Type 0} (front back : List X) (n : ℕ) → length front ≡ n → take n (front ++ back) ≡ front
take-front front back n e = ap (λ k. take k (front ++ back)) (sym e) ∙ take-append_seam front back

pub drop-front : {X : Type 0} (front back : List X) (n : ℕ) → length front ≡ n → drop n (front ++ back) ≡ back
drop-front front back n e = ap (λ k. drop k (front ++ back)) (sym e) ∙ drop-append_seam front back

-- a map of one element more
pub map-push : {X Y : Type 0} (f : X → Y) (xs : List X) (x : X) → map f (xs ++ x ∷ []) ≡ map f xs ++ f x ∷ []
map-push f xs x = map-append f xs (x ∷ [])

-- a map of a map
pub map-map : {X Y Z : Type 0} (f : Y → Z) (g : X → Y) (xs : List X) → map f (map g xs) ≡ map (λ (x : X). f (g x)) xs
map-map f g [] = refl
map-map {Z = Z} f g (x ∷ xs) = ap (λ (ys : List Z). f (g x) ∷ ys) (map-map f g xs)

-- the map of lists one after another
pub map-flat_map : {X Y Z : Type 0} (f : Y → Z) (g : X → List Y) (xs : List X) → map f (flat_map g xs) ≡ flat_map (λ (x : X). map f (g x)) xs
map-flat_map f g [] = refl
map-flat_map {Z = Z} f g (x ∷ xs) = map-append f (g x) (flat_map g xs) ∙ ap (λ (ys : List Z). map f (g x) ++ ys) (map-flat_map f g xs)

-- lists of two functions that are equal everywhere
pub flat_map-same : {X Y : Type 0} (f g : X → List Y) (xs : List X) → ((x : X) → f x ≡ g x) → flat_map f xs ≡ flat_map g xs
flat_map-same f g [] e = refl
flat_map-same {Y = Y} f g (x ∷ xs) e = ap₂ (λ (a b : List Y). a ++ b) (e x) (flat_map-same f g xs e)

-- one element more
pub flat_map-take_more : {X Y : Type 0} (f : X → List Y) (xs : List X) (i : ℕ) (x : X) → slice_get xs i ≡ Some x → flat_map f (take (i + 1) xs) ≡ flat_map f (take i xs) ++ f x
flat_map-take_more {Y = Y} f xs i x h =
    ap (flat_map f) (take_more xs i x (slice_get_within xs i x h))
    ∙ flat_map-append f (take i xs) (get_or xs i x ∷ [])
    ∙ ap (λ (ys : List Y). flat_map f (take i xs) ++ ys) (append-nil (f (get_or xs i x)) ∙ ap f (get_or_from_slice_get xs i x x h))

-- a fact of each element of each list is one of each element of all
pub All-flat_map : {X Y : Type 0} (P : Y → Type 0) (f : X → List Y) (xs : List X) → All (λ (x : X). All P (f x)) xs → All P (flat_map f xs)
All-flat_map P f [] each = All-nil P
All-flat_map {X = X} P f (x ∷ xs) each =
    All-append P (f x) (flat_map f xs) (All-head (λ (x : X). All P (f x)) x xs each)
    (All-flat_map P f xs (All-tail (λ (x : X). All P (f x)) x xs each))

-- a fact of everything holds of each of some
pub All-always : {X : Type 0} (P : X → Type 0) (xs : List X) → ((x : X) → P x) → All P xs
All-always P [] always = All-nil P
All-always P (x ∷ xs) always = All-cons P x xs (always x) (All-always P xs always)

-- so many lists of at most so many elements
pub length-flat_map_le : {X Y : Type 0} (f : X → List Y) (most : ℕ) (xs : List X) → All (λ (x : X). length (f x) ≤ most) xs → length (flat_map f xs) ≤ length xs * most
length-flat_map_le f most [] each = omega arith
length-flat_map_le {X = X} f most (x ∷ xs) each =
    let here = All-head (λ (x : X). length (f x) ≤ most) x xs each in
    let there = length-flat_map_le f most xs (All-tail (λ (x : X). length (f x) ≤ most) x xs each) in
    omega (arith, length-append (f x) (flat_map f xs), here, there)

-- a relation of two lists, place by place, that follows from another
pub zip_weaker : {A B : Type 0} (R S : A → B → Type 0) → ((x : A) (y : B) → R x y → S x y) → (xs : List A) (ys : List B) → AllZip R xs ys → AllZip S xs ys
zip_weaker R S follows [] [] each = tt
zip_weaker R S follows [] (y ∷ ys) each = absurd each
zip_weaker R S follows (x ∷ xs) [] each = absurd each
zip_weaker R S follows (x ∷ xs) (y ∷ ys) each = (follows x y each.0, zip_weaker R S follows xs ys each.1)

-- an element behind a front
pub at-seam : {X : Type 0} (front : List X) (x : X) (back : List X) → slice_get (front ++ x ∷ back) (length front) ≡ Some x
at-seam [] x back = refl
at-seam (y ∷ front) x back = at-seam front x back

-- an element of a list with one more: it stands in the list, or is that one
pub at-push : {X : Type 0} (xs : List X) (y : X) (i : ℕ) (x : X) → slice_get (xs ++ y ∷ []) i ≡ Some x → ((i < length xs) × (slice_get xs i ≡ Some x)) ⊎ ((i ≡ length xs) × (y ≡ x))
at-push [] y zero x h = inr (refl, same_Some y x h)
at-push [] y (suc i) x h = absurd cc
at-push (z ∷ xs) y zero x h = inl (omega arith, h)
at-push (z ∷ xs) y (suc i) x h = by (at-push xs y i x h)
  where
    by : ((i < length xs) × (slice_get xs i ≡ Some x)) ⊎ ((i ≡ length xs) × (y ≡ x)) → ((suc i < suc (length xs)) × (slice_get xs i ≡ Some x)) ⊎ ((suc i ≡ suc (length xs)) × (y ≡ x))
    by (inl front) = inl (omega (arith, front.0), front.1)
    by (inr last) = inr (omega (arith, last.0), last.1)

-- what is left from a place on begins with what stands there
pub left-from : {X : Type 0} (xs : List X) (i : ℕ) (x : X) → slice_get xs i ≡ Some x → drop i xs ≡ x ∷ drop (i + 1) xs
left-from {X} xs i x is =
    drop-cons xs i x (slice_get_within xs i x is)
    ∙ ap (λ (y : X). y ∷ drop (suc i) xs) (get_or_from_slice_get xs i x x is)
    ∙ ap (λ (n : ℕ). x ∷ drop n xs) (sym (add-one i))

-- what was moved so far, and what is left, are all: one element more
pub one-moved : {X : Type 0} (moved xs all : List X) (i : ℕ) (x : X) → slice_get xs i ≡ Some x → moved ++ drop i xs ≡ all → (moved ++ x ∷ []) ++ drop (i + 1) xs ≡ all
one-moved {X} moved xs all i x at is =
    append_assoc moved (x ∷ []) (drop (i + 1) xs)
    ∙ ap (λ (left : List X). moved ++ left) (sym (left-from xs i x at))
    ∙ is

-- what is found in front is found where more stands behind
pub find-front : {X : Type 0} (p : X → Bool) (xs ys : List X) (x : X) → find p xs ≡ Some x → find p (xs ++ ys) ≡ Some x
find-front p [] ys x h = absurd cc
find-front {X} p (y ∷ xs) ys x h = by (p y) h (find-front p xs ys x)
  where
    by : (b : Bool) → cond b (Some y) (find p xs) ≡ Some x → (find p xs ≡ Some x → find p (xs ++ ys) ≡ Some x) → cond b (Some y) (find p (xs ++ ys)) ≡ Some x
    by true h rest = h
    by false h rest = rest h
