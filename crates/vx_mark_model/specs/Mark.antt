-- How well a place of a scan is the centre of a timing mark.
use Rattle.std.specs.Prelude.{ℕ, ◌+◌, ◌≤◌, ◌&&◌, Bool, nat_le, pos, ◌+ℤ◌, ◌-ℤ◌}
use Rattle.vx_plane.specs.Plane.{Page, dark_at}
use Rattle.vx_plane.specs.Count.{count_in, outside_of}
use Rattle.vx_grid.specs.declared.places.Point.{Point}
use Rattle.vx_grid.specs.declared.sizes.HalfSides.{HalfSides}
use Rattle.vx_mark_model.specs.Region.{Region, IsIn, is_in}

-- the footprint of a place: the 46 by 22 pixels round it, offsets -23 to 22 by -11 to 10
abbrev pub footprint : HalfSides
footprint = record { across = 23; down = 11 }

-- the light pixels of a place's core, offsets -17 to 16 by -5 to 4
abbrev pub core_light : Page → Point → ℕ
core_light page p = count_in (p.u -ℤ pos 17) (p.v -ℤ pos 5) 34 10 (outside_of (dark_at page))

-- the dark pixels of a place's flanks, at the four sides of its footprint: left, offsets -23 to -20 by
-- -5 to 4, right, 19 to 22 by -5 to 4, top, -17 to 16 by -11 to -8, and bottom, -17 to 16 by 7 to 10
abbrev pub flanks_dark : Page → Point → ℕ
flanks_dark page p =
    count_in (p.u -ℤ pos footprint.across) (p.v -ℤ pos 5) 4 10 (dark_at page)
    + count_in (p.u +ℤ pos 19) (p.v -ℤ pos 5) 4 10 (dark_at page)
    + count_in (p.u -ℤ pos 17) (p.v -ℤ pos footprint.down) 34 4 (dark_at page)
    + count_in (p.u -ℤ pos 17) (p.v +ℤ pos 7) 34 4 (dark_at page)

-- what is wrong with a place: the light pixels of its core and the dark ones of its flanks
abbrev pub deficit_of : Page → Point → ℕ
deficit_of page p = core_light page p + flanks_dark page p

-- the places whose footprint lies in the frame
abbrev pub framed : Page → Region
framed page = record {
  left = pos footprint.across;
  right = pos page.width -ℤ pos footprint.across;
  top = pos footprint.down;
  bottom = pos page.height -ℤ pos footprint.down;
}

-- the footprint of a place lies in the frame
abbrev pub IsInFrame : Page → Point → Type 0
IsInFrame page p = IsIn (framed page) p

-- the most pixels that may be wrong at an accepted place
abbrev pub most_wrong : ℕ
most_wrong = 20

-- an accepted place: its footprint lies in the frame and its deficit is at most 20
pub record IsAccepted (page : Page) (p : Point) : Type 0 where
  pub in_frame : IsInFrame page p
  pub deficit : deficit_of page p ≤ most_wrong

-- the same, as a test
abbrev pub is_accepted : Page → Point → Bool
is_accepted page p = is_in (framed page) p && nat_le (deficit_of page p) most_wrong
