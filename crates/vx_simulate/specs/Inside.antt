-- The rows of a bubble's box, and what lies inside the outline in each.
use Rattle.std.specs.Prelude.{ℕ, ◌+◌, false, ◌&&◌, nat_le, nat_lt, slice_index_or, pos}
use Rattle.vx_plane.specs.Plane.{Pixels}
use Rattle.vx_simulate.specs.declared.painting.Stretch.{Stretch}
use Rattle.vx_simulate.specs.declared.painting.TheConstants.{INSIDE}

-- what the table has for a row of the box
abbrev pub stretch_of : ℕ → Stretch
stretch_of row = slice_index_or INSIDE row (record { first = 0; width = 0 })

-- the pixels of the table, from the left top pixel of the box
abbrev pub stretches : Pixels
stretches (pos column) (pos row) =
    let stretch = stretch_of row in nat_le stretch.first column && nat_lt column (stretch.first + stretch.width)
stretches u v = false
