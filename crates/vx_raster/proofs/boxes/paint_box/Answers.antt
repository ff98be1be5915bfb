use Rattle.vx_layout.specs.Print.{box_pixels}
use Rattle.vx_raster.proofs.boxes.paint_box.Goals as goal

pub returns : goal.returns
unfolding box_pixels
returns c = rw (c.centre_x.ensures.exact, c.centre_y.ensures.exact, c.place_of_box-column.ensures.exact) at c.paint_round.ensures
