-- The region of a page inside its frame of timing marks.
use Rattle.std.specs.Prelude.{◌+◌, ◌-◌, ◌*◌, not, pos}
use Rattle.vx_plane.specs.Plane.{Pixels, rectangle}
use Rattle.vx_grid.specs.declared.paper.Paper.{Paper}
use Rattle.vx_grid.specs.Paper.{last_row, first_y}

-- the inner region: all that lies 120 columns and 130 rows inside the centres of the outer marks,
-- columns 178 to 1521, and rows 190 to 2009, or 204 to 2595 on legal paper
abbrev pub inner_region : Paper → Pixels
inner_region paper = rectangle (pos 178) (pos (first_y paper + 130)) 1344 (52 * last_row paper - 260)

-- the frame zone: every place outside the inner region
abbrev pub frame_zone : Paper → Pixels
frame_zone paper u v = not (inner_region paper u v)
