use Rattle.std.proofs.Common.{◌≡◌}
use Rattle.vx_plane.specs.Plane.{painted, in_any}
use Rattle.vx_layout.specs.Print.{column_pixels}
use Rattle.vx_raster.proofs.text.paint_glyph.Given as goal

-- the columns so far are painted
abbrev pub invariant-loop-column : goal.invariant-loop-column
invariant-loop-column l = l.page ≡ painted l.fn.page (in_any l.column (column_pixels l.fn.c l.x l.y))
