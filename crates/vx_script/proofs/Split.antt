-- Texts that are cut at a byte.
use Rattle.std.proofs.Common.{◌≡◌, ◌<◌, ◌+◌, ℕ, Bool, true, false, cond, List, [], ◌∷◌, length, take, drop, Some, None, refl, sym, ap, ◌∙◌, arith}
use Rattle.std.specs.List.{position_from, position_or_len, slice_split, onto_first}
use Rattle.std.proofs.Math.Dec.{ltb}
use Rattle.std.proofs.lemmas.Bool.{ltb-true, le-ltb}
use Rattle.std.proofs.lemmas.Iterator.Adapters.{position_from-zero}
use Rattle.std.proofs.lemmas.List.Splits.{slice_split_first}

-- a text with no such byte is one piece
none_then : {X : Type 0} (p : X → Bool) (n : ℕ) (x : X) (xs : List X) (b : Bool) → p x ≡ b → cond b (Some n) (position_from p (n + 1) xs) ≡ None → (position_from p (n + 1) xs ≡ None → slice_split p xs ≡ xs ∷ []) → cond b ([] ∷ slice_split p xs) (onto_first x (slice_split p xs)) ≡ (x ∷ xs) ∷ []
none_then p n x xs true is none rest = absurd cc
none_then p n x xs false is none rest = ap (onto_first x) (rest none)

pub one_piece : {X : Type 0} (p : X → Bool) (n : ℕ) (xs : List X) → position_from p n xs ≡ None → slice_split p xs ≡ xs ∷ []
one_piece p n [] none = refl
one_piece p n (x ∷ xs) none = none_then p n x xs (p x) refl none (one_piece p (n + 1) xs)

-- where one is, the text is cut there
at_place : {X : Type 0} (p : X → Bool) (xs : List X) (at : ℕ) (b : Bool) → ltb (position_or_len p xs) (length xs) ≡ b → cond b (Some (position_or_len p xs)) None ≡ Some at → (position_or_len p xs < length xs) × (position_or_len p xs ≡ at)
at_place p xs at true is found = (ltb-true _ _ is, cc)
at_place p xs at false is found = absurd cc

pub cut_at : {X : Type 0} (p : X → Bool) (xs : List X) (at : ℕ) (d : X) → Some at ≡ position_from p 0 xs → slice_split p xs ≡ take at xs ∷ slice_split p (drop (at + 1) xs)
cut_at {X} p xs at d found =
    let there = at_place p xs at (ltb (position_or_len p xs) (length xs)) refl (position_from-zero p xs ∙ sym found) in
    slice_split_first p xs d there.0 ∙ ap (λ (n : ℕ). take n xs ∷ slice_split p (drop (n + 1) xs)) there.1

-- nothing passes where the first place that does is the end
pub at_end : {X : Type 0} (p : X → Bool) (xs : List X) → position_or_len p xs ≡ length xs → position_from p 0 xs ≡ None
at_end p xs is =
    let past : ltb (position_or_len p xs) (length xs) ≡ false = le-ltb (position_or_len p xs) (length xs) (omega (arith, is)) in
    sym (position_from-zero p xs) ∙ rw past refl

-- a text has a piece
pub some_pieces : {X : Type 0} (p : X → Bool) (xs : List X) → slice_split p xs ≡ [] → ⊥
some_pieces p [] none = cc
some_pieces p (x ∷ xs) none = by (p x) none
  where
    onto : (parts : List (List _)) → onto_first x parts ≡ [] → ⊥
    onto [] h = cc
    onto (part ∷ parts) h = cc

    by : (b : Bool) → cond b ([] ∷ slice_split p xs) (onto_first x (slice_split p xs)) ≡ [] → ⊥
    by true h = cc
    by false h = onto (slice_split p xs) h
