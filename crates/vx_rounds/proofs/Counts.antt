-- Sums and counts of lists.
use Rattle.std.proofs.Common.{◌≡◌, ◌≢◌, ◌⊎◌, inl, inr, ℕ, zero, suc, ◌+◌, Bool, true, cond, List, [], ◌∷◌, length, map, refl, ap, sym, ◌∙◌, arith}
use Rattle.std.specs.Prelude.{count_by, sum_by}
use Rattle.std.proofs.lemmas.List.Sums.{sum_by-cons}

-- two numbers are the same, or they aren't
pub same_or : (m n : ℕ) → (m ≡ n) ⊎ (m ≢ n)
same_or zero zero = inl refl
same_or zero (suc n) = inr (λ e. omega arith)
same_or (suc m) zero = inr (λ e. omega arith)
same_or (suc m) (suc n) = elim (same_or m n) [ inl e ↦ inl (omega arith) | inr e ↦ inr (λ h. e (omega arith)) ]

-- a sum in two parts
pub sum_by-split : {X : Type 0} (f g h : X → ℕ) → ((x : X) → f x + g x ≡ h x) → (xs : List X) → sum_by f xs + sum_by g xs ≡ sum_by h xs
sum_by-split f g h each [] = refl
sum_by-split f g h each (x ∷ xs) =
    omega (arith, sum_by-cons f x xs, sum_by-cons g x xs, sum_by-cons h x xs, each x, sum_by-split f g h each xs)

-- a count of a map
pub count_by-map : {X Y : Type 0} (p : Y → Bool) (f : X → Y) (xs : List X) → count_by p (map f xs) ≡ count_by (λ (x : X). p (f x)) xs
count_by-map p f [] = refl
count_by-map {X = X} {Y = Y} p f (x ∷ xs) =
    sum_by-cons (λ (y : Y). cond (p y) 1 0) (f x) (map f xs)
    ∙ ap (λ n. cond (p (f x)) 1 0 + n) (count_by-map p f xs)
    ∙ sym (sum_by-cons (λ (z : X). cond (p (f z)) 1 0) x xs)

-- what all pass is counted whole
pub count_by-all : {X : Type 0} (xs : List X) → count_by (λ (x : X). true) xs ≡ length xs
count_by-all [] = refl
count_by-all {X = X} (x ∷ xs) = omega (arith, sum_by-cons (λ (y : X). 1) x xs, count_by-all xs)
