use Rattle.vx_plane.specs.Plane.{any_of}
use Rattle.vx_grid.specs.Paper.{page_width, page_height}
use Rattle.vx_grid.specs.Marks.{timing_marks}
use Rattle.vx_code.specs.Code.{boxes_of}
use Rattle.vx_layout.specs.Print.{code_pixels, bubble_pixels, line_pixels, print_of}
use Rattle.vx_raster.proofs.Painted.{painted-in_turn}
use Rattle.vx_raster.proofs.painting.paint.Goals as goal

pub returns : goal.returns
unfolding print_of
returns c =
    let plan = c.args.plan.now in
    painted-in_turn page_width (page_height plan.paper) c.in_ok-page.page _ _ _ _ (timing_marks plan.paper) (code_pixels plan.paper (boxes_of c.args.code.now)) (any_of plan.bubbles (bubble_pixels plan.paper)) (any_of plan.texts line_pixels)
    (rw c.page_height.ensures.exact at c.in_ok-page.ensures)
    c.paint_marks.ensures
    (rw c.boxes_of.ensures.exact at c.paint_boxes.ensures)
    (rw c.as_slice.ensures at c.paint_bubbles.ensures)
    (rw c.as_slice-2.ensures at c.paint_texts.ensures)
