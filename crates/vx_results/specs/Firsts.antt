-- Texts with numbers: each text once, in the order of first appearance, and the sum of its numbers.
use Rattle.std.specs.Prelude.{ℕ, not, List, [], ◌∷◌, map, filter, sum_by, bytes_eq}

-- a text with a number
abbrev pub Numbered : Type 0
Numbered = List ℕ × ℕ

-- each text once, where it stands first
abbrev pub firsts : List (List ℕ) → List (List ℕ)
firsts [] = []
firsts (text ∷ texts) = text ∷ filter (λ other. not (bytes_eq text other)) (firsts texts)

-- the texts of pairs, each once
abbrev pub texts_of : List Numbered → List (List ℕ)
texts_of pairs = firsts (map (λ (pair : Numbered). pair.0) pairs)

-- the sum of the numbers that stand with a text
abbrev pub sum_for : List Numbered → List ℕ → ℕ
sum_for pairs text = sum_by (λ (pair : Numbered). pair.1) (filter (λ (pair : Numbered). bytes_eq text pair.0) pairs)
