-- Counts of places that were drawn, and of the first pixels of a set.
use Rattle.std.proofs.Common.{◌≡◌, ◌⊎◌, inl, inr, ℕ, ◌+◌, ◌*◌, ◌≤◌, true, false, ◌&&◌, List, [], ◌∷◌, length, ℤ, pos, ◌+ℤ◌, ◌≤ℤ◌, ◌<ℤ◌, refl, ap, sym, ◌∙◌, arith}
use Rattle.std.specs.Ordering.{int_eq}
use Rattle.std.proofs.lemmas.Bool.{false≢true}
use Rattle.vx_base.proofs.Booleans.{is-false}
use Rattle.vx_plane.specs.Plane.{Pixels, union, rectangle}
use Rattle.vx_plane.specs.Count.{one_if, sum_from, count_in}
use Rattle.vx_plane.proofs.Sums.{sum_from-same, sum_from-le, sum_from-same_number}
use Rattle.vx_plane.proofs.Counts.{count_in-by_rows, count_in-le, count_in-none, count_in-union_le, count_in-le_area}
use Rattle.vx_plane.proofs.Pages.{rectangle-inside, rectangle-outside, rectangle-one}
use Rattle.vx_geom.proofs.Runs.{run_le}
use Rattle.vx_simulate.specs.Flips.{places_from}

sum-none : (low : ℤ) (n : ℕ) (f : ℤ → ℕ) → ((z : ℤ) → low ≤ℤ z → z <ℤ (low +ℤ pos n) → f z ≡ 0) → sum_from low n f ≡ 0
sum-none low n f none =
    let zeros : sum_from low n (λ z. 0) ≡ n * 0 = sum_from-same_number low n 0 in
    let nothing : n * 0 ≡ 0 = omega arith in
    sum_from-same low n f (λ z. 0) none ∙ zeros ∙ nothing

-- a set that lies in a rectangle is counted in any other at most as often as there
pub count-inside : (left top : ℤ) (w h : ℕ) (x y : ℤ) (m n : ℕ) (set : Pixels) → ((u v : ℤ) → set u v ≡ true → rectangle x y m n u v ≡ true) → count_in left top w h set ≤ count_in x y m n set
count-inside left top w h x y m n set within =
    let f : ℤ → ℕ = λ v. sum_from left w (λ u. one_if (set u v)) in
    let g : ℤ → ℕ = λ v. sum_from x m (λ u. one_if (set u v)) in
    let here : count_in left top w h set ≡ sum_from top h f = count_in-by_rows left top w h set in
    let there : count_in x y m n set ≡ sum_from y n g = count_in-by_rows x y m n set in
    let across : sum_from top h f ≤ sum_from top h g =
    sum_from-le top h f g (λ v a b. run_le left w x m (λ u. one_if (set u v))
    (λ u c d out. ap one_if (outside u v (elim out [ inl e ↦ inl e | inr e ↦ inr (inl e) ])))) in
    let down : sum_from top h g ≤ sum_from y n g =
    run_le top h y n g (λ v a b out. sum-none x m (λ u. one_if (set u v))
    (λ u c d. ap one_if (outside u v (elim out [ inl e ↦ inr (inr (inl e)) | inr e ↦ inr (inr (inr e)) ])))) in
    omega (arith, here, there, across, down)
  where
    outside : (u v : ℤ) → (u <ℤ x) ⊎ ((x +ℤ pos m) ≤ℤ u) ⊎ (v <ℤ y) ⊎ ((y +ℤ pos n) ≤ℤ v) → set u v ≡ false
    outside u v out = is-false (set u v) (λ h. false≢true (sym (rectangle-outside x y m n u v out) ∙ within u v h))

-- one place is counted at most once
count-one : (left top : ℤ) (w h : ℕ) (x y : ℤ) → count_in left top w h (λ u v. int_eq u x && int_eq v y) ≤ 1
count-one left top w h x y =
    let set : Pixels = λ u v. int_eq u x && int_eq v y in
    let inside : count_in left top w h set ≤ count_in x y 1 1 set = count-inside left top w h x y 1 1 set (λ u v is. rectangle-one x y u v ∙ is) in
    let one : count_in x y 1 1 set ≤ 1 * 1 = count_in-le_area x y 1 1 set in
    omega (arith, inside, one)

-- places are counted at most as often as they were drawn
pub count-places : (left top : ℤ) (w h : ℕ) (x y : ℤ) (places : List (ℕ × ℕ)) → count_in left top w h (places_from x y places) ≤ length places
count-places left top w h x y [] =
    let none : count_in left top w h (places_from x y []) ≡ 0 = count_in-none left top w h (places_from x y []) (λ u v a b c d. refl) in
    omega (arith, none)
count-places left top w h x y (at ∷ places) =
    let first : Pixels = λ u v. int_eq u (x +ℤ pos at.0) && int_eq v (y +ℤ pos at.1) in
    let both : count_in left top w h (union first (places_from x y places)) ≤ count_in left top w h first + count_in left top w h (places_from x y places) =
    count_in-union_le left top w h first (places_from x y places) in
    let one : count_in left top w h first ≤ 1 = count-one left top w h (x +ℤ pos at.0) (y +ℤ pos at.1) in
    let more : count_in left top w h (places_from x y places) ≤ length places = count-places left top w h x y places in
    let same : count_in left top w h (places_from x y (at ∷ places)) ≡ count_in left top w h (union first (places_from x y places)) = refl in
    omega (arith, both, one, more, same)

-- a set whose places in a rectangle are among some that were drawn
pub count-among : (left top : ℤ) (w h : ℕ) (x y : ℤ) (places : List (ℕ × ℕ)) (set : Pixels)
    → ((u v : ℤ) → rectangle left top w h u v ≡ true → set u v ≡ true → places_from x y places u v ≡ true) → count_in left top w h set ≤ length places
count-among left top w h x y places set among =
    let most : count_in left top w h set ≤ count_in left top w h (places_from x y places) =
    count_in-le left top w h set (places_from x y places) (λ u v a b c d is. among u v (rectangle-inside left top w h u v a b c d) is) in
    let many : count_in left top w h (places_from x y places) ≤ length places = count-places left top w h x y places in
    omega (arith, most, many)
