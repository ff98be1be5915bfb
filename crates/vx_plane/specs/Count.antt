-- Counts of the places of a set in a rectangle.
use Rattle.std.specs.Prelude.{ℕ, suc, zero, ◌+◌, Bool, true, false, not, ℤ, pos, ◌+ℤ◌}
use Rattle.vx_plane.specs.Plane.{Pixels}

-- 1 for a place that is in the set
abbrev pub one_if : Bool → ℕ
one_if true = 1
one_if false = 0

-- the sum of f over n whole numbers, from low on
abbrev pub sum_from : ℤ → ℕ → (ℤ → ℕ) → ℕ
sum_from low zero f = 0
sum_from low (suc n) f = f low + sum_from (low +ℤ pos 1) n f

-- the number of places of the set in a rectangle: its left column, its top row, its sides
unfoldable pub count_in : ℤ → ℤ → ℕ → ℕ → Pixels → ℕ
count_in left top width height set = sum_from top height (λ v. sum_from left width (λ u. one_if (set u v)))

-- the places that aren't in the set
abbrev pub outside_of : Pixels → Pixels
outside_of set u v = not (set u v)
