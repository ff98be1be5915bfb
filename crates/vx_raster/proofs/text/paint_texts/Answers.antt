use Rattle.std.proofs.Common.{ap, ◌∙◌, arith}
use Rattle.vx_plane.specs.Plane.{painted}
use Rattle.vx_layout.specs.declared.lines.TextLine.{TextLine}
use Rattle.vx_layout.specs.Print.{line_pixels}
use Rattle.vx_raster.proofs.Painted.{painted-begun, painted-next_of_list}
use Rattle.vx_raster.proofs.text.paint_texts.Goals as goal

pub loop-line-init : goal.loop-line-init
loop-line-init c = painted-begun c.args.page.now c.width-columns.ensures.whole

pub loop-line-preserved : goal.loop-line-preserved
loop-line-preserved c =
    painted-next_of_list c.args.page.now c.loop-line.page _ c.args.texts.now c.loop-line.line-index c.line-item.result line_pixels
    (omega arith) c.loop-line.invariant (c.paint_line.ensures ∙ ap (λ (line : TextLine). painted c.loop-line.page (line_pixels line)) c.line-item.is)
