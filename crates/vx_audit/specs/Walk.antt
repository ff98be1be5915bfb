-- What the elements of a list give with their places, one after another.
use Rattle.std.specs.Prelude.{ℕ, ◌+◌, List, [], ◌∷◌, ◌++◌}

-- what each element gives with its place; the place of the first is told
abbrev pub by_place : {X A : Type 0} → (ℕ → X → List A) → ℕ → List X → List A
by_place give place [] = []
by_place give place (x ∷ xs) = give place x ++ by_place give (place + 1) xs
