use Rattle.std.proofs.Common.{◌≡◌, get_or, false, ap, ◌∙◌, arith}
use Rattle.vx_plane.specs.Plane.{painted, in_any}
use Rattle.vx_layout.specs.Print.{box_pixels, printed_box, code_pixels}
use Rattle.vx_raster.proofs.Painted.{painted-begun, painted-next_chosen, painted-not_chosen}
use Rattle.vx_raster.proofs.boxes.paint_boxes.Goals as goal
use Rattle.vx_raster.proofs.boxes.paint_boxes.Goals.{then-printed-n, else-printed-n}

pub loop-n-init : goal.loop-n-init
loop-n-init c = painted-begun c.args.page.now c.width-columns.ensures.whole

pub loop-n-preserved : goal.loop-n-preserved
loop-n-preserved c =
    elim c.if-printed-n.branch [
      | then-printed-n w ↦ painted-next_chosen c.args.page.now c.loop-n.page _ c.loop-n.n (λ n. get_or c.args.printed.now n false) (box_pixels c.args.paper) w.if-printed-n.true c.loop-n.invariant (w.page-is ∙ w.paint_box.ensures)
      | else-printed-n w ↦ painted-not_chosen c.args.page.now c.loop-n.page _ c.loop-n.n (λ n. get_or c.args.printed.now n false) (box_pixels c.args.paper) w.if-printed-n.false c.loop-n.invariant w.page-is
    ]

pub returns : goal.returns
unfolding code_pixels
returns c =
    let all : c.loop-n.n ≡ 84 = omega arith in
    c.loop-n.invariant ∙ ap (λ n. painted c.args.page.now (in_any n (printed_box c.args.paper c.args.printed.now))) all
