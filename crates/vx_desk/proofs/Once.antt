-- What stands in a list once.
use Rattle.std.proofs.Common.{◌≡◌, ℕ, zero, suc, ◌+◌, ◌≤◌, ◌==◌, Bool, true, false, cond, List, [], ◌∷◌, map, refl, sym, ap, ◌∙◌, arith}
use Rattle.std.specs.Prelude.{◌&&◌, count_by, filter, find, nat_le, slice_get, Some}
use Rattle.std.proofs.lemmas.List.Sums.{sum_by-cons}
use Rattle.std.proofs.lemmas.Option.{same_Some}
use Rattle.vx_base.proofs.Booleans.{and-both, and-left, and-right}
use Rattle.vx_base.proofs.Numbers.{at_most-yes, at_most-from_yes}
use Rattle.vx_rules.specs.declared.marks.ContestMarks.{ContestMarks}
use Rattle.vx_events.specs.Ascending.{ascends_from}
use Rattle.vx_events.specs.Fits.{contests_of}

module _ {X : Type 0} (p : X → Bool) where
  -- what alone passes is what is found
  pub find_alone : (xs : List X) (i : ℕ) (x : X) → slice_get xs i ≡ Some x → p x ≡ true
      → ((j : ℕ) (y : X) → slice_get xs j ≡ Some y → p y ≡ true → y ≡ x) → find p xs ≡ Some x
  find_alone [] i x at passes alone = absurd cc
  find_alone (z ∷ xs) zero x at passes alone = by (p z) (ap p (same_Some z x at) ∙ passes)
    where
      by : (b : Bool) → b ≡ true → cond b (Some z) (find p xs) ≡ Some x
      by true is = at
      by false is = absurd cc
  find_alone (z ∷ xs) (suc i) x at passes alone =
      by (p z) refl (find_alone xs i x at passes (λ j y there. alone (suc j) y there))
    where
      by : (b : Bool) → p z ≡ b → find p xs ≡ Some x → cond b (Some z) (find p xs) ≡ Some x
      by true is rest = ap Some (alone zero z refl is)
      by false is rest = rest

  -- how many pass, by the first
  counted : (x : X) (xs : List X) → count_by p (x ∷ xs) ≡ cond (p x) 1 0 + count_by p xs
  counted x xs = sum_by-cons (λ (y : X). cond (p y) 1 0) x xs

  pub count_none : (xs : List X) → ((j : ℕ) (y : X) → slice_get xs j ≡ Some y → p y ≡ true → ⊥) → count_by p xs ≡ 0
  count_none [] none = refl
  count_none (x ∷ xs) none = by (p x) refl (counted x xs) (count_none xs (λ j y there. none (suc j) y there))
    where
      by : (b : Bool) → p x ≡ b → count_by p (x ∷ xs) ≡ cond b 1 0 + count_by p xs → count_by p xs ≡ 0 → count_by p (x ∷ xs) ≡ 0
      by true is whole rest = absurd (none zero x refl is)
      by false is whole rest = omega (arith, whole, rest)

  -- what passes at one place alone is counted once
  pub count_alone : (xs : List X) (i : ℕ) (x : X) → slice_get xs i ≡ Some x → p x ≡ true
      → ((j : ℕ) (y : X) → slice_get xs j ≡ Some y → p y ≡ true → j ≡ i) → count_by p xs ≡ 1
  count_alone [] i x at passes alone = absurd cc
  count_alone (z ∷ xs) zero x at passes alone =
      by (p z) (ap p (same_Some z x at) ∙ passes) (counted z xs)
      (count_none xs (λ j y there passes. absurd (omega (arith, alone (suc j) y there passes))))
    where
      by : (b : Bool) → b ≡ true → count_by p (z ∷ xs) ≡ cond b 1 0 + count_by p xs → count_by p xs ≡ 0 → count_by p (z ∷ xs) ≡ 1
      by true is whole rest = omega (arith, whole, rest)
      by false is whole rest = absurd cc
  count_alone (z ∷ xs) (suc i) x at passes alone =
      by (p z) refl (counted z xs)
      (count_alone xs i x at passes (λ j y there passes. omega (arith, alone (suc j) y there passes)))
    where
      by : (b : Bool) → p z ≡ b → count_by p (z ∷ xs) ≡ cond b 1 0 + count_by p xs → count_by p xs ≡ 1 → count_by p (z ∷ xs) ≡ 1
      by true is whole rest = absurd (omega (arith, alone zero z refl is))
      by false is whole rest = omega (arith, whole, rest)

-- how often a number stands among those of what passes two tests
pub times_chosen : {X : Type 0} (one other : X → Bool) (f : X → ℕ) (n : ℕ) (xs : List X)
    → count_by (λ (m : ℕ). m == n) (map f (filter one (filter other xs))) ≡ count_by (λ (x : X). other x && (one x && (f x == n))) xs
times_chosen one other f n [] = refl
times_chosen {X} one other f n (x ∷ xs) =
    by (other x) (times_chosen one other f n xs)
    (λ (m : ℕ) (ms : List ℕ). sum_by-cons (λ (k : ℕ). cond (k == n) 1 0) m ms)
    ∙ sym (sum_by-cons (λ (y : X). cond (other y && (one y && (f y == n))) 1 0) x xs)
  where
    left : List X
    left = filter other xs

    all : ℕ
    all = count_by (λ (y : X). other y && (one y && (f y == n))) xs

    by : (b : Bool) → count_by (λ (m : ℕ). m == n) (map f (filter one left)) ≡ all
        → ((m : ℕ) (ms : List ℕ) → count_by (λ (k : ℕ). k == n) (m ∷ ms) ≡ cond (m == n) 1 0 + count_by (λ (k : ℕ). k == n) ms)
        → count_by (λ (m : ℕ). m == n) (map f (filter one (cond b (x ∷ left) left))) ≡ cond (b && (one x && (f x == n))) 1 0 + all
    by false rest more = omega (arith, rest)
    by true rest more = inner (one x)
      where
        inner : (d : Bool) → count_by (λ (m : ℕ). m == n) (map f (cond d (x ∷ filter one left) (filter one left))) ≡ cond (d && (f x == n)) 1 0 + all
        inner true = more (f x) (map f (filter one left)) ∙ ap (λ (k : ℕ). cond (f x == n) 1 0 + k) rest
        inner false = omega (arith, rest)

-- contests that ascend, and fewer of them
less : (b a : ℕ) (numbers : List ℕ) → b ≤ a → ascends_from a numbers ≡ true → ascends_from b numbers ≡ true
less b a [] low is = refl
less b a (n ∷ numbers) low is =
    let first = at_most-from_yes a n (and-left (nat_le a n) (ascends_from (n + 1) numbers) is) in
    and-both (nat_le b n) (ascends_from (n + 1) numbers) (at_most-yes b n (omega (arith, first, low)))
    (and-right (nat_le a n) (ascends_from (n + 1) numbers) is)

pub fewer_ascend : (p : ContestMarks → Bool) (least : ℕ) (xs : List ContestMarks) → ascends_from least (contests_of xs) ≡ true
    → ascends_from least (contests_of (filter p xs)) ≡ true
fewer_ascend p least [] is = refl
fewer_ascend p least (x ∷ xs) is =
    let first = and-left (nat_le least x.contest) (ascends_from (x.contest + 1) (contests_of xs)) is in
    let rest = and-right (nat_le least x.contest) (ascends_from (x.contest + 1) (contests_of xs)) is in
    by (p x) first (fewer_ascend p (x.contest + 1) xs rest)
    (fewer_ascend p least xs (less least (x.contest + 1) (contests_of xs) (omega (arith, at_most-from_yes least x.contest first)) rest))
  where
    by : (b : Bool) → nat_le least x.contest ≡ true → ascends_from (x.contest + 1) (contests_of (filter p xs)) ≡ true
        → ascends_from least (contests_of (filter p xs)) ≡ true → ascends_from least (contests_of (cond b (x ∷ filter p xs) (filter p xs))) ≡ true
    by true first rest without = and-both (nat_le least x.contest) (ascends_from (x.contest + 1) (contests_of (filter p xs))) first rest
    by false first rest without = without
