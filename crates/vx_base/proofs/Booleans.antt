-- Truth values, and choices by one.
use Rattle.std.proofs.Common.{◌≡◌, ℕ, ◌≤◌, Bool, true, false, cond, refl, sym}
use Rattle.std.specs.Prelude.{◌&&◌, ◌||◌, Option, None, Some, Result, Ok, Err}

pub and-both : (a b : Bool) → a ≡ true → b ≡ true → a && b ≡ true
and-both true b h k = k
and-both false b h k = h

pub and-left : (a b : Bool) → a && b ≡ true → a ≡ true
and-left true b h = refl
and-left false b h = h

pub and-right : (a b : Bool) → a && b ≡ true → b ≡ true
and-right true b h = h
and-right false b h = absurd cc

pub or-left : (a b : Bool) → a ≡ true → a || b ≡ true
or-left true b h = refl
or-left false b h = absurd cc

pub or-right : (a b : Bool) → b ≡ true → a || b ≡ true
or-right true b h = refl
or-right false b h = h

pub or-cases : {P : Type 0} (a b : Bool) → a || b ≡ true → (a ≡ true → P) → (b ≡ true → P) → P
or-cases true b h f g = f refl
or-cases false b h f g = g h

-- a choice that gave a value where the test is to hold
pub chosen-if : {A F : Type 0} (b : Bool) (r : Result A F) (e : F) (x : A) → cond b r (Err e) ≡ Ok x → (b ≡ true) × (r ≡ Ok x)
chosen-if true r e x h = (refl, h)
chosen-if false r e x h = absurd cc

-- a choice that gave a value where the test is to fail
pub chosen-unless : {A F : Type 0} (b : Bool) (r : Result A F) (e : F) (x : A) → cond b (Err e) r ≡ Ok x → (b ≡ false) × (r ≡ Ok x)
chosen-unless true r e x h = absurd cc
chosen-unless false r e x h = (refl, h)

-- a choice between something and nothing that gave nothing
pub chosen-none : {A : Type 0} (b : Bool) (x : A) (rest : Option A) → cond b (Some x) rest ≡ None → (b ≡ false) × (rest ≡ None)
chosen-none true x rest h = absurd cc
chosen-none false x rest h = (refl, h)

pub and-no : (a b : Bool) → b ≡ false → a && b ≡ false
and-no true b h = h
and-no false b h = refl

pub is-false : (b : Bool) → (b ≡ true → ⊥) → b ≡ false
is-false true h = absurd (h refl)
is-false false h = refl

pub not-both : (b : Bool) → b ≡ true → b ≡ false → ⊥
not-both true h g = absurd cc
not-both false h g = absurd cc

-- two tests that hold together are one
pub same-bool : (a b : Bool) → (a ≡ true → b ≡ true) → (b ≡ true → a ≡ true) → a ≡ b
same-bool true true to from = refl
same-bool true false to from = sym (to refl)
same-bool false true to from = from refl
same-bool false false to from = refl

-- either of two numbers that are at most so large
pub either-le : (b : Bool) (m n most : ℕ) → m ≤ most → n ≤ most → cond b m n ≤ most
either-le true m n most h k = h
either-le false m n most h k = k
