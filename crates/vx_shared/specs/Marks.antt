-- Marks along a history: which of its calls are a pass's own.
use Rattle.std.specs.Prelude.{ℕ, zero, suc, ◌+◌, ◌||◌, Bool, true, false, if◌then◌else◌, List, [], ◌∷◌}

-- 1 where a place is marked, else 0
abbrev pub is_marked : List Bool → ℕ → ℕ
is_marked [] place = 0
is_marked (mark ∷ marks) zero = if mark then 1 else 0
is_marked (mark ∷ marks) (suc place) = is_marked marks place

-- the marks, and that of one more place
abbrev pub marked : ℕ → List Bool → List Bool
marked zero [] = true ∷ []
marked zero (mark ∷ marks) = true ∷ marks
marked (suc place) [] = false ∷ marked place []
marked (suc place) (mark ∷ marks) = mark ∷ marked place marks

-- the places that one of both marks
abbrev pub either_marked : List Bool → List Bool → List Bool
either_marked [] others = others
either_marked (mark ∷ marks) [] = mark ∷ marks
either_marked (mark ∷ marks) (other ∷ others) = (mark || other) ∷ either_marked marks others

-- the marked places, in ascending order, the first place of the list being so much
abbrev pub places_from : ℕ → List Bool → List ℕ
places_from first [] = []
places_from first (mark ∷ marks) = if mark then first ∷ places_from (first + 1) marks else places_from (first + 1) marks

abbrev pub places_of : List Bool → List ℕ
places_of marks = places_from 0 marks
