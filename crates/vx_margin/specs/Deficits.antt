-- Deficits of a place in a set of dark pixels.
use Rattle.std.specs.Prelude.{ℕ, ◌+◌, pos, ◌+ℤ◌, ◌-ℤ◌}
use Rattle.vx_plane.specs.Plane.{Pixels}
use Rattle.vx_plane.specs.Count.{count_in, outside_of}
use Rattle.vx_grid.specs.declared.places.Point.{Point}
use Rattle.vx_mark_model.specs.Mark.{footprint}

-- the light pixels of a place's core
abbrev pub light_core : Pixels → Point → ℕ
light_core dark p = count_in (p.u -ℤ pos 17) (p.v -ℤ pos 5) 34 10 (outside_of dark)

-- the dark pixels of its flanks
abbrev pub dark_flanks : Pixels → Point → ℕ
dark_flanks dark p =
    count_in (p.u -ℤ pos footprint.across) (p.v -ℤ pos 5) 4 10 dark
    + count_in (p.u +ℤ pos 19) (p.v -ℤ pos 5) 4 10 dark
    + count_in (p.u -ℤ pos 17) (p.v -ℤ pos footprint.down) 34 4 dark
    + count_in (p.u -ℤ pos 17) (p.v +ℤ pos 7) 34 4 dark

-- both
abbrev pub deficit_in : Pixels → Point → ℕ
deficit_in dark p = light_core dark p + dark_flanks dark p
