use Rattle.std.proofs.Common.{◌≡◌, List, refl, ap, ap₂, get_or, pos, ◌∙◌}
use Rattle.vx_plane.specs.Plane.{painted, in_any, placed}
use Rattle.vx_grid.specs.Grid.{x_of, y_of}
use Rattle.vx_layout.specs.declared.bubbles.Bubble.{Bubble}
use Rattle.vx_scan_model.specs.Ink.{bubble_at}
use Rattle.vx_simulate.specs.declared.ink.Ink.TheVariants.{FirstPixels}
use Rattle.vx_simulate.specs.Ink.{ink_pixels, inked_bubble}
use Rattle.vx_simulate.proofs.Laid.{laid-none, next-of-family}
use Rattle.vx_simulate.proofs.painting.paint_inks.Goals as goal

pub loop-n-init : goal.loop-n-init
loop-n-init c = laid-none c.args.page.now (in_any 0 (inked_bubble c.args.plan.now c.args.inks.now)) c.width-columns.ensures.whole (λ u v. refl)

pub loop-n-preserved : goal.loop-n-preserved
loop-n-preserved c =
    let plan = c.args.plan.now in
    let n = c.loop-n.n in
    let ink = get_or c.args.inks.now n (FirstPixels 0) in
    let here : get_or c.as_slice-bubbles.result.now n (record { contest = 0; option = 0; col = 0; row = 0 }) ≡ bubble_at plan n =
    ap (λ (bs : List Bubble). get_or bs n (record { contest = 0; option = 0; col = 0; row = 0 })) c.as_slice-bubbles.ensures in
    next-of-family c.args.page.now c.loop-n.page c.paint_ink.new.page n (inked_bubble plan c.args.inks.now) c.loop-n.invariant
    (c.paint_ink.ensures
    ∙ ap₂ (λ x y. painted c.loop-n.page (placed (pos x) (pos y) (ink_pixels ink))) c.centre_x.ensures.exact c.centre_y.ensures.exact
    ∙ ap (λ (b : Bubble). painted c.loop-n.page (placed (pos (x_of b.col)) (pos (y_of plan.paper b.row)) (ink_pixels ink))) here)
