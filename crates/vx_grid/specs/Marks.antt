-- The timing marks of a page: their numbers, by the last row, and their pixels.
use Rattle.std.specs.Prelude.{ℕ, ◌+◌, ◌-◌, ◌*◌, nat_lt, if◌then◌else◌}
use Rattle.vx_plane.specs.Plane.{Pixels, in_any}
use Rattle.vx_grid.specs.declared.paper.Paper.{Paper}
use Rattle.vx_grid.specs.Paper.{last_row}
use Rattle.vx_grid.specs.Grid.{last_column, x_of, y_of}
use Rattle.vx_grid.specs.Sizes.{mark, round}

-- the first mark of the right column: the top row has one for each grid column
abbrev pub first_right : ℕ
first_right = 34

-- the first mark of the left column: the right column has one for each row but row 0
abbrev pub first_left : ℕ → ℕ
first_left last = 34 + last

-- the first mark of the bottom row: the left column has one for each row but row 0
abbrev pub first_bottom : ℕ → ℕ
first_bottom last = 34 + 2 * last

-- how many marks there are: the bottom row has one for each column but the first and the last
abbrev pub marks_to : ℕ → ℕ
marks_to last = 66 + 2 * last

-- the number of marks of a page: 146, or 168 on legal paper
abbrev pub marks : Paper → ℕ
marks paper = marks_to (last_row paper)

-- the grid column and row of a mark
abbrev pub mark_of : ℕ → ℕ → ℕ × ℕ
mark_of last k =
    if nat_lt k first_right then (k, 0)
    else if nat_lt k (first_left last) then (last_column, k - 33)
    else if nat_lt k (first_bottom last) then (0, k - (33 + last))
    else (k - (33 + 2 * last), last)

-- the pixels of a mark
unfoldable pub mark_pixels : Paper → ℕ → Pixels
mark_pixels paper k = round mark (x_of (mark_of (last_row paper) k).0) (y_of paper (mark_of (last_row paper) k).1)

-- all timing marks of a page
unfoldable pub timing_marks : Paper → Pixels
timing_marks paper = in_any (marks paper) (mark_pixels paper)
