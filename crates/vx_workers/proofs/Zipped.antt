-- A relation of two lists, place by place, where the second is written or grows, and what is there.
use Rattle.std.proofs.Common.{ℕ, suc, zero, ◌+◌, ◌<◌, List, [], ◌∷◌, ◌++◌, length, take, set, arith}
use Rattle.std.specs.Prelude.{Option, None, Some, IfSome, slice_get}
use Rattle.std.specs.List.{AllZip}
use Rattle.std.specs.Option.{IsSomeAnd}
use Rattle.std.proofs.Math.Numerals.{add-one}

module _ {A B : Type 0} (R : A → B → Type 0) where
  -- an element is written that fits where there is one
  pub zip_set : (xs : List A) (ys : List B) (k : ℕ) (y : B) → AllZip R xs ys → IfSome (slice_get xs k) (λ x. R x y) → AllZip R xs (set ys k y)
  zip_set [] [] k y each at = tt
  zip_set [] (z ∷ ys) k y each at = absurd each
  zip_set (x ∷ xs) [] k y each at = absurd each
  zip_set (x ∷ xs) (z ∷ ys) zero y each at = (at, each.1)
  zip_set (x ∷ xs) (z ∷ ys) (suc k) y each at = (each.0, zip_set xs ys k y each.1 at)

  more : (xs : List A) (ys : List B) (k : ℕ) (y : B) → AllZip R (take k xs) ys → IsSomeAnd (slice_get xs k) (λ x. R x y) → AllZip R (take (suc k) xs) (ys ++ y ∷ [])
  more [] ys k y each at = absurd at
  more (x ∷ xs) [] zero y each at = (at, tt)
  more (x ∷ xs) (z ∷ ys) zero y each at = absurd each
  more (x ∷ xs) [] (suc k) y each at = absurd each
  more (x ∷ xs) (z ∷ ys) (suc k) y each at = (each.0, more xs ys k y each.1 at)

  -- one element more
  pub zip_more : (xs : List A) (ys : List B) (k : ℕ) (y : B) → AllZip R (take k xs) ys → IsSomeAnd (slice_get xs k) (λ x. R x y) → AllZip R (take (k + 1) xs) (ys ++ y ∷ [])
  zip_more xs ys k y each at = rw add-one (more xs ys k y each at)

-- what holds of everything holds of what is there
pub always : {A : Type 0} (o : Option A) (P : A → Type 0) → ((x : A) → P x) → IfSome o P
always None P all = tt
always (Some x) P all = all x

pub if_there : {A : Type 0} (o : Option A) (P : A → Type 0) → IsSomeAnd o P → IfSome o P
if_there None P there = absurd there
if_there (Some x) P there = there

-- something is there within the list, and only there
pub is_there : {A : Type 0} (xs : List A) (k : ℕ) (P : A → Type 0) → k < length xs → ((x : A) → P x) → IsSomeAnd (slice_get xs k) P
is_there [] k P within all = absurd (omega arith)
is_there (x ∷ xs) zero P within all = all x
is_there (x ∷ xs) (suc k) P within all = is_there xs k P (omega arith) all

pub there_within : {A : Type 0} (xs : List A) (k : ℕ) (P : A → Type 0) → IsSomeAnd (slice_get xs k) P → k < length xs
there_within [] k P there = absurd there
there_within (x ∷ xs) zero P there = omega arith
there_within (x ∷ xs) (suc k) P there = let r = there_within xs k P there in omega arith
