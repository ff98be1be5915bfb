-- Laws of sums over a run of whole numbers.
use Rattle.std.proofs.Common.{◌≡◌, ℕ, zero, suc, ◌+◌, ◌*◌, ◌≤◌, ℤ, pos, ◌+ℤ◌, ◌≤ℤ◌, ◌<ℤ◌, refl, ap, sym, ◌∙◌, arith}
use Rattle.std.proofs.lemmas.Int.{ints}
use Rattle.vx_plane.specs.Count.{sum_from}

one_on : (low : ℤ) (n : ℕ) → (low +ℤ pos 1) +ℤ pos n ≡ low +ℤ pos (suc n)
one_on low n = omega (arith, ints)

-- equal summands, equal sums
pub sum_from-same : (low : ℤ) (n : ℕ) (f g : ℤ → ℕ) → ((z : ℤ) → low ≤ℤ z → z <ℤ (low +ℤ pos n) → f z ≡ g z) → sum_from low n f ≡ sum_from low n g
sum_from-same low zero f g same = refl
sum_from-same low (suc n) f g same =
    let here : f low ≡ g low = same low (omega (arith, ints)) (omega (arith, ints)) in
    let rest : sum_from (low +ℤ pos 1) n f ≡ sum_from (low +ℤ pos 1) n g = sum_from-same (low +ℤ pos 1) n f g (λ z l h. same z (omega (arith, ints)) (omega (arith, ints))) in
    cc

-- smaller summands, a smaller sum
pub sum_from-le : (low : ℤ) (n : ℕ) (f g : ℤ → ℕ) → ((z : ℤ) → low ≤ℤ z → z <ℤ (low +ℤ pos n) → f z ≤ g z) → sum_from low n f ≤ sum_from low n g
sum_from-le low zero f g below = omega arith
sum_from-le low (suc n) f g below =
    let here : f low ≤ g low = below low (omega (arith, ints)) (omega (arith, ints)) in
    let rest : sum_from (low +ℤ pos 1) n f ≤ sum_from (low +ℤ pos 1) n g = sum_from-le (low +ℤ pos 1) n f g (λ z l h. below z (omega (arith, ints)) (omega (arith, ints))) in
    omega arith

-- a sum in two parts
pub sum_from-parts : (low : ℤ) (m n : ℕ) (f : ℤ → ℕ) → sum_from low (m + n) f ≡ sum_from low m f + sum_from (low +ℤ pos m) n f
sum_from-parts low zero n f =
    let at : low +ℤ pos 0 ≡ low = omega (arith, ints) in
    let count : 0 + n ≡ n = omega arith in
    ap (λ k. sum_from low k f) count ∙ ap (λ z. sum_from z n f) (sym at) ∙ omega arith
sum_from-parts low (suc m) n f =
    let count : suc m + n ≡ suc (m + n) = omega arith in
    let rest : sum_from (low +ℤ pos 1) (m + n) f ≡ sum_from (low +ℤ pos 1) m f + sum_from ((low +ℤ pos 1) +ℤ pos m) n f = sum_from-parts (low +ℤ pos 1) m n f in
    let at : sum_from ((low +ℤ pos 1) +ℤ pos m) n f ≡ sum_from (low +ℤ pos (suc m)) n f = ap (λ z. sum_from z n f) (one_on low m) in
    ap (λ k. sum_from low k f) count ∙ omega arith

-- one summand more at the end
pub sum_from-more : (low : ℤ) (n : ℕ) (f : ℤ → ℕ) → sum_from low (n + 1) f ≡ sum_from low n f + f (low +ℤ pos n)
sum_from-more low n f =
    let one : sum_from (low +ℤ pos n) 1 f ≡ f (low +ℤ pos n) = omega arith in
    sum_from-parts low n 1 f ∙ ap (λ k. sum_from low n f + k) one

-- a sum moved along
pub sum_from-moved : (low by : ℤ) (n : ℕ) (f : ℤ → ℕ) → sum_from (low +ℤ by) n f ≡ sum_from low n (λ z. f (z +ℤ by))
sum_from-moved low by zero f = refl
sum_from-moved low by (suc n) f =
    let at : (low +ℤ by) +ℤ pos 1 ≡ (low +ℤ pos 1) +ℤ by = omega (arith, ints) in
    ap (λ k. f (low +ℤ by) + k) (ap (λ z. sum_from z n f) at ∙ sum_from-moved (low +ℤ pos 1) by n f)

-- the sum of a sum of two
pub sum_from-add : (low : ℤ) (n : ℕ) (f g : ℤ → ℕ) → sum_from low n (λ z. f z + g z) ≡ sum_from low n f + sum_from low n g
sum_from-add low zero f g = refl
sum_from-add low (suc n) f g = omega (arith, sum_from-add (low +ℤ pos 1) n f g)

-- the sum of one number throughout
pub sum_from-same_number : (low : ℤ) (n c : ℕ) → sum_from low n (λ z. c) ≡ n * c
sum_from-same_number low zero c = omega arith
sum_from-same_number low (suc n) c = omega (arith, sum_from-same_number (low +ℤ pos 1) n c)

-- a sum over columns and rows, in either order
pub sum_from-orders : (left top : ℤ) (width height : ℕ) (f : ℤ → ℤ → ℕ) → sum_from top height (λ v. sum_from left width (λ u. f u v)) ≡ sum_from left width (λ u. sum_from top height (λ v. f u v))
sum_from-orders left top width zero f = sym (sum_from-same_number left width 0 ∙ omega arith)
sum_from-orders left top width (suc height) f =
    let rest : sum_from (top +ℤ pos 1) height (λ v. sum_from left width (λ u. f u v)) ≡ sum_from left width (λ u. sum_from (top +ℤ pos 1) height (λ v. f u v)) = sum_from-orders left (top +ℤ pos 1) width height f in
    ap (λ k. sum_from left width (λ u. f u top) + k) rest ∙ sym (sum_from-add left width (λ u. f u top) (λ u. sum_from (top +ℤ pos 1) height (λ v. f u v)))
