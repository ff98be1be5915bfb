use Rattle.std.proofs.Common.{◌∙◌, arith, pos}
use Rattle.vx_plane.proofs.Pages.{painted-same}
use Rattle.vx_grid.specs.Grid.{x_of, y_of}
use Rattle.vx_layout.specs.Print.{bubble_pixels}
use Rattle.vx_raster.proofs.Outlines.{any_of-outline}
use Rattle.vx_raster.proofs.outline.paint_bubble.Goals as goal

pub returns : goal.returns
unfolding bubble_pixels
returns c =
    let bubble = c.args.bubble.now in
    (rw (c.centre_x.ensures.exact, c.centre_y.ensures.exact, c.from.ensures, c.from-2.ensures) at c.stamp.ensures)
    ∙ painted-same c.args.page.now _ _ (λ u v l h. any_of-outline (x_of bubble.col) (y_of c.args.paper bubble.row) (pos u) (pos v) (omega arith) (omega arith))
