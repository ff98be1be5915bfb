-- What is known of numbers and places that were drawn.
use Rattle.std.proofs.Common.{◌≡◌, ℕ, zero, suc, ◌≤◌, ◌<◌, true, false, ◌&&◌, List, [], ◌∷◌, length, ℤ, pos, ◌+ℤ◌, mod-lt, refl, ap, ◌∙◌, arith}
use Rattle.std.specs.Prelude.{All, slice_index_or}
use Rattle.std.specs.Ordering.{int_eq}
use Rattle.std.proofs.lemmas.Int.{ints}
use Rattle.rand_pcg.specs.Lcg.{Lcg}
use Rattle.rand_pcg.specs.Pcg.{pcg32}
use Rattle.vx_base.proofs.Booleans.{or-cases}
use Rattle.vx_plane.specs.Plane.{rectangle}
use Rattle.vx_plane.proofs.Pages.{rectangle-inside, rectangle-sides, rectangle-one}
use Rattle.vx_simulate.specs.Draws.{draw, draw_place, draw_places, draw_all}
use Rattle.vx_simulate.specs.Flips.{places_from, AreDrawnIn}

pub draw-below : (bound : ℕ) (g : Lcg) → 0 < bound → (draw bound g).0 < bound
draw-below bound g some = mod-lt (pcg32 g).0 some

pub places-many : (many width height : ℕ) (g : Lcg) → length (draw_places many width height g).0 ≡ many
places-many zero width height g = refl
places-many (suc many) width height g = ap suc (places-many many width height _)

-- places that were drawn lie in their rectangle
pub places-inside : (many width height : ℕ) (g : Lcg) (x y u v : ℤ) → 0 < width → 0 < height → places_from x y (draw_places many width height g).0 u v ≡ true → rectangle x y width height u v ≡ true
places-inside zero width height g x y u v wide high found = absurd (nothing found)
  where
    nothing : false ≡ true → ⊥
    nothing e = cc
places-inside (suc many) width height g x y u v wide high found =
    let across : ℕ = (draw width g).0 in
    let down : ℕ = (draw height (draw width g).1).0 in
    or-cases (int_eq u (x +ℤ pos across) && int_eq v (y +ℤ pos down)) _ found
    (λ here.
    let at = rectangle-sides (x +ℤ pos across) (y +ℤ pos down) 1 1 u v (rectangle-one (x +ℤ pos across) (y +ℤ pos down) u v ∙ here) in
    let few : across < width = draw-below width g wide in
    let low : down < height = draw-below height (draw width g).1 high in
    rectangle-inside x y width height u v (omega (arith, ints, at.0)) (omega (arith, ints, at.1, few)) (omega (arith, ints, at.2)) (omega (arith, ints, at.3, low)))
    (λ later. places-inside many width height _ x y u v wide high later)

pub all-many : {A B : Type 0} (one : A → Lcg → B × Lcg) (xs : List A) (g : Lcg) → length (draw_all one xs g).0 ≡ length xs
all-many one [] g = refl
all-many one (x ∷ xs) g = ap suc (all-many one xs (one x g).1)

-- what was drawn for an element was drawn from some state of the generator
pub all-at : {A B : Type 0} (one : A → Lcg → B × Lcg) (xs : List A) (g : Lcg) (k : ℕ) (d : B) (c : A) → k < length xs
    → (state : Lcg) × (slice_index_or (draw_all one xs g).0 k d ≡ (one (slice_index_or xs k c) state).0)
all-at one [] g k d c few = absurd (omega (arith, few))
all-at one (x ∷ xs) g zero d c few = (g, refl)
all-at one (x ∷ xs) g (suc k) d c few = all-at one xs (one x g).1 k d c (omega (arith, few))

-- lists of places, each of so many in a rectangle
pub lists-few : {A : Type 0} (many width height : ℕ) (xs : List A) (g : Lcg) (k : ℕ) → length (slice_index_or (draw_all (λ (x : A). draw_places many width height) xs g).0 k []) ≤ many
lists-few many width height [] g k = omega arith
lists-few many width height (x ∷ xs) g zero = (let all = places-many many width height g in omega (arith, all))
lists-few many width height (x ∷ xs) g (suc k) = lists-few many width height xs (draw_places many width height g).1 k

pub lists-inside : {A : Type 0} (many width height : ℕ) (xs : List A) (g : Lcg) (k : ℕ) (x y u v : ℤ) → 0 < width → 0 < height
    → places_from x y (slice_index_or (draw_all (λ (a : A). draw_places many width height) xs g).0 k []) u v ≡ true → rectangle x y width height u v ≡ true
lists-inside many width height [] g k x y u v wide high found = cc
lists-inside many width height (a ∷ xs) g zero x y u v wide high found = places-inside many width height g x y u v wide high found
lists-inside many width height (a ∷ xs) g (suc k) x y u v wide high found = lists-inside many width height xs (draw_places many width height g).1 k x y u v wide high found

-- they are offsets below the sides of their rectangle
pub places-below : (many width height : ℕ) (g : Lcg) → 0 < width → 0 < height → All (λ (at : ℕ × ℕ). (at.0 < width) × (at.1 < height)) (draw_places many width height g).0
places-below zero width height g wide high k d few = absurd (omega (arith, few))
places-below (suc many) width height g wide high zero d few = (draw-below width g wide, draw-below height (draw width g).1 high)
places-below (suc many) width height g wide high (suc k) d few = places-below many width height (draw_place width height g).1 wide high k d (omega (arith, few))

lists-below : {A : Type 0} (many width height : ℕ) (xs : List A) (g : Lcg) → 0 < width → 0 < height
    → All (All (λ (at : ℕ × ℕ). (at.0 < width) × (at.1 < height))) (draw_all (λ (a : A). draw_places many width height) xs g).0
lists-below many width height [] g wide high k d few = absurd (omega (arith, few))
lists-below many width height (a ∷ xs) g wide high zero d few = places-below many width height g wide high
lists-below many width height (a ∷ xs) g wide high (suc k) d few = lists-below many width height xs (draw_places many width height g).1 wide high k d (omega (arith, few))

pub lists-drawn : {A : Type 0} (many width height : ℕ) (xs : List A) (g : Lcg) → 0 < width → 0 < height
    → AreDrawnIn (length xs) width height (draw_all (λ (a : A). draw_places many width height) xs g).0
lists-drawn {A = A} many width height xs g wide high = record {
  all = all-many (λ (a : A). draw_places many width height) xs g;
  within = lists-below many width height xs g wide high;
}
