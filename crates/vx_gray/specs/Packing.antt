-- Rows of pixels, packed.
use Rattle.std.specs.Prelude.{ℕ, ◌/◌, nat_lt, List, Bool, map, slice_index, length}
use Rattle.std.specs.List.{range_with_len}

-- which of some values are below a number
abbrev pub below : ℕ → List ℕ → List Bool
below half values = map (λ value. nat_lt value half) values

-- which of the values of a row are below the number of their tile
abbrev pub row_below : List ℕ → List ℕ → List Bool
row_below halves values =
    map (λ u. nat_lt (slice_index values u) (slice_index halves (u / 64))) (range_with_len 0 (length values))
