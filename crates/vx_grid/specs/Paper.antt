-- The two papers, and what differs between them, in pixels and grid rows: this project's own
-- geometry, at 200 pixels an inch. All else that differs follows from the last row and where row 0 is.
use Rattle.std.specs.Prelude.{ℕ}
use Rattle.vx_grid.specs.declared.paper.Paper.{Paper}
use Rattle.vx_grid.specs.declared.paper.Paper.TheVariants.{Letter, Legal}

-- the width of a page
abbrev pub page_width : ℕ
page_width = 1700

-- the height of a page
abbrev pub page_height : Paper → ℕ
page_height Letter = 2200
page_height Legal = 2800

-- the last grid row
abbrev pub last_row : Paper → ℕ
last_row Letter = 40
last_row Legal = 51

-- the pixel row of the centre of grid row 0
abbrev pub first_y : Paper → ℕ
first_y Letter = 60
first_y Legal = 74
