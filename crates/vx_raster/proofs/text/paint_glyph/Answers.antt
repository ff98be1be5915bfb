use Rattle.std.proofs.Common.{◌≡◌, ap, ◌∙◌, arith}
use Rattle.vx_plane.specs.Plane.{painted, in_any}
use Rattle.vx_font.specs.Font.{dot_of}
use Rattle.vx_layout.specs.Print.{column_pixels, glyph_pixels}
use Rattle.vx_raster.proofs.Painted.{painted-begun, painted-next_of_family}
use Rattle.vx_raster.proofs.text.paint_glyph.Goals as goal

pub loop-column-init : goal.loop-column-init
loop-column-init c = painted-begun c.args.page.now c.width-columns.ensures.whole

pub loop-column-preserved : goal.loop-column-preserved
unfolding column_pixels dot_of
loop-column-preserved c =
    painted-next_of_family c.args.page.now c.loop-column.page _ c.loop-column.column (column_pixels c.args.c c.args.x c.args.y) c.loop-column.invariant
    (rw c.dots-columns.ensures.exact at c.paint_column.ensures)

pub returns : goal.returns
unfolding glyph_pixels
returns c =
    let all : c.loop-column.column ≡ 5 = omega arith in
    c.loop-column.invariant ∙ ap (λ n. painted c.args.page.now (in_any n (column_pixels c.args.c c.args.x c.args.y))) all
