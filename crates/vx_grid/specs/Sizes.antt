-- How large a timing mark, a bubble and a box of the page code are, and how far round them one looks.
use Rattle.std.specs.Prelude.{ℕ, ◌+◌, pos, ◌-ℤ◌}
use Rattle.vx_plane.specs.Plane.{Pixels, rectangle}
use Rattle.vx_grid.specs.declared.sizes.HalfSides.{HalfSides}

-- a timing mark: 36 by 12 pixels
abbrev pub mark : HalfSides
mark = record { across = 18; down = 6 }

-- the box of a bubble: 40 by 26 pixels
abbrev pub bubble : HalfSides
bubble = record { across = 20; down = 13 }

-- a box of the page code: 28 by 20 pixels
abbrev pub code_box : HalfSides
code_box = record { across = 14; down = 10 }

-- the reach of a window past its box, and of a zone past its window: 8 columns and 6 rows
abbrev pub reach : HalfSides
reach = record { across = 8; down = 6 }

-- grown by the reach on all sides
abbrev pub grown : HalfSides → HalfSides
grown half = record { across = half.across + reach.across; down = half.down + reach.down }

-- the window of a box, where its print is looked for
abbrev pub window_of : HalfSides → HalfSides
window_of half = grown half

-- the zone of a box, which holds its window wherever that may lie
abbrev pub zone_of : HalfSides → HalfSides
zone_of half = grown (grown half)

-- the pixels of such a size round a centre
abbrev pub round : HalfSides → ℕ → ℕ → Pixels
round half x y =
    rectangle (pos x -ℤ pos half.across) (pos y -ℤ pos half.down) (half.across + half.across) (half.down + half.down)

-- the pixels of a bubble's printed outline
abbrev pub outline_pixels : ℕ
outline_pixels = 192

-- the pixels inside the outline
abbrev pub inner_pixels : ℕ
inner_pixels = 624
