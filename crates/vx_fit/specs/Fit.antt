-- The grid places of a scan: this project's own geometry.
use Rattle.std.specs.Prelude.{ℕ, ◌+◌, ◌-◌, ◌==◌, ℤ, pos, ◌+ℤ◌, ◌-ℤ◌, ◌*ℤ◌, ◌≤ℤ◌, if◌then◌else◌}
use Rattle.std.specs.Int.{int_div_euclid}
use Rattle.vx_grid.specs.declared.places.Point.{Point}
use Rattle.vx_grid.specs.Paper.{last_row}
use Rattle.vx_grid.specs.Marks.{first_right, first_left}
use Rattle.vx_grid.specs.Borders.{MarkPlaces}
use Rattle.vx_grid.specs.Places.{point_at}

-- the number of the timing mark at the left end of a grid row, where the paper's last row is given:
-- row 0 begins with mark 0, row 1 with the first mark of the left column
abbrev pub left_mark : ℕ → ℕ → ℕ
left_mark last row = if row == 0 then 0 else (first_left last - 1) + row

-- the number of the timing mark at the right end of a grid row: row 1 ends with the first mark of the
-- right column
abbrev pub right_mark : ℕ → ℕ
right_mark row = (first_right - 1) + row

-- so many of 33 equal parts of a distance, rounded towards minus infinity
abbrev pub part_of : ℤ → ℕ → ℤ
part_of distance steps = int_div_euclid (distance *ℤ pos steps) (pos 33)

-- so many of 33 equal steps from a to b, rounded towards minus infinity
abbrev pub between : ℤ → ℤ → ℕ → ℤ
between a b steps = a +ℤ part_of (b -ℤ a) steps

-- a part of a distance lies between nothing and the whole of it
pub record IsOnTheWay (distance part : ℤ) : Type 0 where
  pub forwards : pos 0 ≤ℤ distance → (pos 0 ≤ℤ part) × (part ≤ℤ distance)
  pub backwards : distance ≤ℤ pos 0 → (distance ≤ℤ part) × (part ≤ℤ pos 0)

-- the place of a grid point between the places of its row's marks
abbrev pub place_between : Point → Point → ℕ → Point
place_between left right column = record { u = between left.u right.u column; v = between left.v right.v column }

-- the place of a grid point, from the places of all marks
abbrev pub place_of : MarkPlaces → ℕ → ℕ → Point
place_of border column row =
    place_between
    (point_at border.places (left_mark (last_row border.paper) row))
    (point_at border.places (right_mark row))
    column
