use Rattle.std.proofs.Common.{◌≡◌, ap₂, sym, ◌∙◌, false, pos}
use Rattle.vx_plane.specs.Plane.{rectangle}
use Rattle.vx_simulate.proofs.Laid.{only-off, off-frame}
use Rattle.vx_simulate.proofs.scan_flips.flip.Goals as goal

pub returns-else-is_inside : goal.returns-else-is_inside
returns-else-is_inside c =
    let page = c.args.page.now in
    let place = c.args.place in
    let out : rectangle (pos 0) (pos 0) page.width page.height place.u place.v ≡ false =
    ap₂ (λ w h. rectangle (pos 0) (pos 0) w h place.u place.v) (sym c.width-width.ensures.value) (sym c.height-height.ensures.value)
    ∙ sym c.is_inside.ensures ∙ c.if-is_inside.false in
    only-off page place c.width-width.ensures.whole (off-frame page.width page.height place.u place.v out)
