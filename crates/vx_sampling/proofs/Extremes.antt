-- The most and the least of numbers.
use Rattle.std.proofs.Common.{◌≡◌, ◌⊎◌, inl, inr, ℕ, ◌<◌, ◌≤◌, List, [], ◌∷◌, refl, subst, sym, arith, max, min}
use Rattle.std.specs.Prelude.{All, Contains, fold}
use Rattle.std.proofs.lemmas.Bool.{cases_lt}
use Rattle.std.proofs.lemmas.List.Elements.{All-nil, All-cons, Contains-get_or, Contains-append_right}

pub here : (x : ℕ) (xs : List ℕ) → Contains (x ∷ xs) x
here x xs = Contains-get_or (x ∷ xs) 0 0 (omega arith)

pub behind-one : (x : ℕ) (xs : List ℕ) (y : ℕ) → Contains xs y → Contains (x ∷ xs) y
behind-one x xs y has = Contains-append_right (x ∷ []) xs y has

-- a number and others are at most their most
pub most-bounds : (n : ℕ) (xs : List ℕ) → (n ≤ fold max n xs) × All (λ x. x ≤ fold max n xs) xs
most-bounds n [] = (omega arith, All-nil (λ x. x ≤ n))
most-bounds n (x ∷ xs) =
    let rest = most-bounds (max n x) xs in
    (omega (arith, rest.0), All-cons (λ y. y ≤ fold max (max n x) xs) x xs (omega (arith, rest.0)) rest.1)

-- which is one of them
pub most-reached : (n : ℕ) (xs : List ℕ) → (fold max n xs ≡ n) ⊎ Contains xs (fold max n xs)
most-reached n [] = inl refl
most-reached n (x ∷ xs) = by (cases_lt n x) (most-reached (max n x) xs)
  where
    by : (n < x) ⊎ (x ≤ n) → (fold max (max n x) xs ≡ max n x) ⊎ Contains xs (fold max (max n x) xs)
        → (fold max (max n x) xs ≡ n) ⊎ Contains (x ∷ xs) (fold max (max n x) xs)
    by which (inr has) = inr (behind-one x xs (fold max (max n x) xs) has)
    by (inl below) (inl same) =
        let is : fold max (max n x) xs ≡ x = omega (arith, below, same) in
        inr (subst (λ y. Contains (x ∷ xs) y) (sym is) (here x xs))
    by (inr above) (inl same) = inl (omega (arith, above, same))

-- the same of the least
pub least-bounds : (n : ℕ) (xs : List ℕ) → (fold min n xs ≤ n) × All (λ x. fold min n xs ≤ x) xs
least-bounds n [] = (omega arith, All-nil (λ x. n ≤ x))
least-bounds n (x ∷ xs) =
    let rest = least-bounds (min n x) xs in
    (omega (arith, rest.0), All-cons (λ y. fold min (min n x) xs ≤ y) x xs (omega (arith, rest.0)) rest.1)

pub least-reached : (n : ℕ) (xs : List ℕ) → (fold min n xs ≡ n) ⊎ Contains xs (fold min n xs)
least-reached n [] = inl refl
least-reached n (x ∷ xs) = by (cases_lt n x) (least-reached (min n x) xs)
  where
    by : (n < x) ⊎ (x ≤ n) → (fold min (min n x) xs ≡ min n x) ⊎ Contains xs (fold min (min n x) xs)
        → (fold min (min n x) xs ≡ n) ⊎ Contains (x ∷ xs) (fold min (min n x) xs)
    by which (inr has) = inr (behind-one x xs (fold min (min n x) xs) has)
    by (inl below) (inl same) = inl (omega (arith, below, same))
    by (inr above) (inl same) =
        let is : fold min (min n x) xs ≡ x = omega (arith, above, same) in
        inr (subst (λ y. Contains (x ∷ xs) y) (sym is) (here x xs))
