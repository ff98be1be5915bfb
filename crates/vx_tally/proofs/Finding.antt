-- First places in lists, and whether there is one.
use Rattle.std.proofs.Common.{◌≡◌, ℕ, suc, ◌+◌, Bool, true, false, cond, not, ◌||◌, List, [], ◌∷◌, ◌++◌, length, map, refl, sym, ap, ap₂, ◌∙◌, arith}
use Rattle.std.specs.Prelude.{Some, None, is_some, nat_lt, position}
use Rattle.std.specs.List.{list_any, position_or_len}
use Rattle.std.proofs.lemmas.Bool.Decides.{nat_tests}

-- some element passes where the first place is one of the list
pub any-place : {X : Type 0} (p : X → Bool) (xs : List X) → nat_lt (position_or_len p xs) (length xs) ≡ list_any p xs
any-place p [] = refl
any-place {X} p (x ∷ xs) = by (p x) refl (any-place p xs)
  where
    by : (b : Bool) → p x ≡ b → nat_lt (position_or_len p xs) (length xs) ≡ list_any p xs
        → nat_lt (position_or_len p (x ∷ xs)) (length (x ∷ xs)) ≡ p x || list_any p xs
    by true e rest = grind (arith, nat_tests)
    by false e rest = grind (arith, nat_tests)

found-any : (b : Bool) (n : ℕ) → is_some (cond b (Some n) None) ≡ b
found-any true n = refl
found-any false n = refl

pub some-place : {X : Type 0} (p : X → Bool) (xs : List X) → is_some (position p xs) ≡ list_any p xs
some-place p xs = found-any (nat_lt (position_or_len p xs) (length xs)) (position_or_len p xs) ∙ any-place p xs

-- none passes where there is no first place
pub none-any : {X : Type 0} (p : X → Bool) (xs : List X) → position p xs ≡ None → list_any p xs ≡ false
none-any p xs none = sym (some-place p xs) ∙ ap is_some none

no-place : (b : Bool) (n : ℕ) → b ≡ false → cond b (Some n) None ≡ None
no-place true n e = absurd cc
no-place false n e = refl

-- and there is none where none passes
pub any-none : {X : Type 0} (p : X → Bool) (xs : List X) → list_any p xs ≡ false → position p xs ≡ None
any-none p xs e = no-place (nat_lt (position_or_len p xs) (length xs)) (position_or_len p xs) (any-place p xs ∙ e)

-- a first place behind a map
place-mapped : {X Y : Type 0} (p : Y → Bool) (f : X → Y) (xs : List X) → position_or_len p (map f xs) ≡ position_or_len (λ x. p (f x)) xs
place-mapped p f [] = refl
place-mapped p f (x ∷ xs) = ap (λ n. cond (not (p (f x))) (1 + n) 0) (place-mapped p f xs)

length-mapped : {X Y : Type 0} (f : X → Y) (xs : List X) → length (map f xs) ≡ length xs
length-mapped f [] = refl
length-mapped f (x ∷ xs) = ap (λ n. suc n) (length-mapped f xs)

pub position-map : {X Y : Type 0} (p : Y → Bool) (f : X → Y) (xs : List X) → position (λ x. p (f x)) xs ≡ position p (map f xs)
position-map p f xs = sym (ap₂ (λ n m. cond (nat_lt n m) (Some n) None) (place-mapped p f xs) (length-mapped f xs))

pub any-map : {X Y : Type 0} (p : Y → Bool) (f : X → Y) (xs : List X) → list_any (λ x. p (f x)) xs ≡ list_any p (map f xs)
any-map p f [] = refl
any-map p f (x ∷ xs) = ap (λ b. p (f x) || b) (any-map p f xs)

none-or : (a b : Bool) → a || b ≡ false → b ≡ false
none-or true b e = absurd cc
none-or false b e = e

-- what isn't found anywhere isn't found behind
any-behind : {X : Type 0} (p : X → Bool) (xs ys : List X) → list_any p (xs ++ ys) ≡ false → list_any p ys ≡ false
any-behind p [] ys e = e
any-behind p (x ∷ xs) ys e = any-behind p xs ys (none-or (p x) (list_any p (xs ++ ys)) e)

pub position-behind : {X : Type 0} (p : X → Bool) (xs ys : List X) → position p (xs ++ ys) ≡ None → position p ys ≡ None
position-behind p xs ys none = any-none p ys (any-behind p xs ys (none-any p (xs ++ ys) none))

-- the keys behind a new one
pub inserted-new : {X : Type 0} (b : Bool) (same longer : List X) → b ≡ false → cond b same longer ≡ longer
inserted-new true same longer e = absurd cc
inserted-new false same longer e = refl
