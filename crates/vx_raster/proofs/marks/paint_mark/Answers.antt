use Rattle.vx_grid.specs.Marks.{mark_pixels}
use Rattle.vx_raster.proofs.marks.paint_mark.Goals as goal

pub returns : goal.returns
unfolding mark_pixels
returns c = rw (c.centre_x.ensures.exact, c.centre_y.ensures.exact, c.mark_of-column.ensures) at c.paint_round.ensures
