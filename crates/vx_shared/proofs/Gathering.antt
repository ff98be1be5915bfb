-- Marks of several groups of calls along a history.
use Rattle.std.proofs.Common.{◌≡◌, ℕ, zero, suc, ◌+◌, ◌≤◌, ◌||◌, Bool, true, false, List, [], ◌∷◌, length, refl, arith}
use Rattle.vx_shared.specs.Marks.{is_marked, marked, either_marked}

pub length_first : (xs ys : List Bool) → length xs ≤ length (either_marked xs ys)
length_first [] ys = omega arith
length_first (x ∷ xs) [] = omega arith
length_first (x ∷ xs) (y ∷ ys) = let h = length_first xs ys in omega arith

-- no marks add nothing
pub either_none : (xs : List Bool) → either_marked xs [] ≡ xs
either_none [] = refl
either_none (x ∷ xs) = refl

or_none : (a : Bool) → (a || false) ≡ a
or_none true = refl
or_none false = refl

or_three : (a b c : Bool) → ((a || b) || c) ≡ (a || (b || c))
or_three true b c = refl
or_three false b c = refl

pub either_three : (xs ys zs : List Bool) → either_marked (either_marked xs ys) zs ≡ either_marked xs (either_marked ys zs)
either_three [] ys zs = refl
either_three (x ∷ xs) [] zs = refl
either_three (x ∷ xs) (y ∷ ys) [] = refl
either_three (x ∷ xs) (y ∷ ys) (z ∷ zs) =
    let head = or_three x y z in
    let rest = either_three xs ys zs in (λ k. head k ∷ rest k)

-- a mark beyond two lists of marks, beside the first
pub marked_either : (place : ℕ) (own marks : List Bool) → length own ≤ place → length marks ≤ place
    → either_marked own (marked place marks) ≡ marked place (either_marked own marks)
marked_either place [] marks one two = refl
marked_either zero (o ∷ own) marks one two = absurd (omega arith)
marked_either (suc place) (o ∷ own) [] one two =
    let head = or_none o in
    let rest : either_marked own (marked place []) ≡ marked place own = rw (either_none own) at (marked_either place own [] (omega arith) (omega arith)) in (λ k. head k ∷ rest k)
marked_either (suc place) (o ∷ own) (m ∷ marks) one two =
    let rest = marked_either place own marks (omega arith) (omega arith) in (λ k. (o || m) ∷ rest k)

-- it is no place of the first
pub marked_apart : (place : ℕ) (own marks : List Bool) → length own ≤ place → length marks ≤ place
    → ((p : ℕ) → is_marked own p + is_marked marks p ≤ 1) → (p : ℕ) → is_marked own p + is_marked (marked place marks) p ≤ 1
marked_apart zero [] [] one two apart zero = omega arith
marked_apart zero [] [] one two apart (suc p) = omega arith
marked_apart zero [] (m ∷ marks) one two apart p = absurd (omega arith)
marked_apart zero (o ∷ own) marks one two apart p = absurd (omega arith)
marked_apart (suc place) [] [] one two apart zero = omega arith
marked_apart (suc place) [] [] one two apart (suc p) = marked_apart place [] [] (omega arith) (omega arith) (λ q. omega arith) p
marked_apart (suc place) [] (m ∷ marks) one two apart zero = apart zero
marked_apart (suc place) [] (m ∷ marks) one two apart (suc p) = marked_apart place [] marks (omega arith) (omega arith) (λ q. apart (suc q)) p
marked_apart (suc place) (o ∷ own) [] one two apart zero = apart zero
marked_apart (suc place) (o ∷ own) [] one two apart (suc p) = marked_apart place own [] (omega arith) (omega arith) (λ q. apart (suc q)) p
marked_apart (suc place) (o ∷ own) (m ∷ marks) one two apart zero = apart zero
marked_apart (suc place) (o ∷ own) (m ∷ marks) one two apart (suc p) = marked_apart place own marks (omega arith) (omega arith) (λ q. apart (suc q)) p
