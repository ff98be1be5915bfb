-- The grid of a page: where its columns and rows are, and what stands in which of them.
use Rattle.std.specs.Prelude.{ℕ, ◌+◌, ◌-◌, ◌*◌}
use Rattle.vx_grid.specs.declared.paper.Paper.{Paper}
use Rattle.vx_grid.specs.Paper.{last_row, first_y}

-- the last grid column
abbrev pub last_column : ℕ
last_column = 33

-- the pixel column of the centre of a grid column
abbrev pub x_of : ℕ → ℕ
x_of c = 58 + 48 * c

-- the pixel row of the centre of a grid row
abbrev pub y_of : Paper → ℕ → ℕ
y_of paper r = first_y paper + 52 * r

-- the first of the three rows of the page code: 35, or 46 on legal paper
abbrev pub first_code_row : Paper → ℕ
first_code_row paper = last_row paper - 5

-- the first of the three rows that are reserved: where the page code is seen on a page that is
-- turned by 180 degrees
abbrev pub first_reserved_row : ℕ
first_reserved_row = 3

-- the first of the rows of contests
abbrev pub first_contest_row : ℕ
first_contest_row = 6

-- how many rows of contests there are: 28, rows 6 to 33, or 39, rows 6 to 44 on legal paper
abbrev pub contest_rows : Paper → ℕ
contest_rows paper = last_row paper - 12

-- the row of the foot line: 34, or 45 on legal paper
abbrev pub foot_row : Paper → ℕ
foot_row paper = last_row paper - 6
