use Rattle.std.proofs.Common.{not, pos, ◌+ℤ◌, ap, sym, ◌∙◌, to_z-of_z}
use Rattle.vx_grid.specs.declared.places.Point.{Point}
use Rattle.vx_plane.specs.Count.{outside_of}
use Rattle.vx_grid.specs.Regions.{frame_zone}
use Rattle.vx_geom.specs.Slants.{slant_of}
use Rattle.vx_simulate.proofs.Laid.{shown-laid_within_at, none-laid_within_at}
use Rattle.vx_simulate.proofs.scan_flips.flip_inside.Goals as goal

pub returns-then-is_in_frame_zone : goal.returns-then-is_in_frame_zone
returns-then-is_in_frame_zone c =
    none-laid_within_at (slant_of c.args.shear) c.args.page.now (record { u = c.args.left +ℤ pos c.args.place.0; v = c.args.top +ℤ pos c.args.place.1 })
    c.offset_from-at.result.u c.offset_from-at.result.v (outside_of (frame_zone c.args.paper))
    c.width-columns.ensures.whole
    (ap not (sym c.is_in_frame_zone.ensures ∙ c.if-is_in_frame_zone.true))
    (ap (λ (p : Point). p.u) c.offset_from-at.ensures.place ∙ ap (λ z. z +ℤ pos c.args.place.0) (to_z-of_z c.ranges.left))
    (ap (λ (p : Point). p.v) c.offset_from-at.ensures.place ∙ ap (λ z. z +ℤ pos c.args.place.1) (to_z-of_z c.ranges.top))

pub returns : goal.returns
returns c =
    shown-laid_within_at (slant_of c.args.shear) c.args.page.now c.flip.new.page (record { u = c.args.left +ℤ pos c.args.place.0; v = c.args.top +ℤ pos c.args.place.1 }) c.to_scan.result
    c.offset_from-at.result.u c.offset_from-at.result.v (outside_of (frame_zone c.args.paper))
    (ap not (sym c.is_in_frame_zone.ensures ∙ c.if-is_in_frame_zone.false))
    c.flip.ensures c.to_scan.ensures
    (ap (λ (p : Point). p.u) c.offset_from-at.ensures.place ∙ ap (λ z. z +ℤ pos c.args.place.0) (to_z-of_z c.ranges.left))
    (ap (λ (p : Point). p.v) c.offset_from-at.ensures.place ∙ ap (λ z. z +ℤ pos c.args.place.1) (to_z-of_z c.ranges.top))
