use Rattle.std.proofs.Common.{refl, ap, ap₂, ◌∙◌, arith, to_z, of_z, w32, to_z-of_z}
use Rattle.std.proofs.lemmas.List.{take_all}
use Rattle.vx_plane.specs.Plane.{painted}
use Rattle.vx_plane.specs.Count.{outside_of}
use Rattle.vx_grid.specs.Regions.{frame_zone}
use Rattle.vx_geom.specs.Slants.{slant_of}
use Rattle.vx_geom.specs.Seen.{seen}
use Rattle.vx_simulate.specs.Flips.{places_from}
use Rattle.vx_simulate.specs.Flipped.{within}
use Rattle.vx_simulate.proofs.Laid.{laid-none, next-place_seen_within}
use Rattle.vx_simulate.proofs.scan_flips.flip_inside_places.Goals as goal

pub loop-place-init : goal.loop-place-init
loop-place-init c = laid-none c.args.page.now _ c.width-columns.ensures.whole (λ u v. refl)

pub loop-place-preserved : goal.loop-place-preserved
loop-place-preserved c =
    next-place_seen_within (slant_of c.args.shear) c.args.page.now c.loop-place.page _ _ _ _ _ (outside_of (frame_zone c.args.paper)) c.args.places.now c.loop-place.place-index _
    refl refl (omega arith) c.loop-place.invariant c.flip_inside.ensures

pub returns : goal.returns
returns c =
    let s = slant_of c.args.shear in
    c.loop-place.invariant
    ∙ ap (λ ps. painted c.args.page.now (seen s (within (places_from (to_z w32 (of_z w32 c.args.left)) (to_z w32 (of_z w32 c.args.top)) ps) (outside_of (frame_zone c.args.paper))))) (take_all c.loop-place.place-index c.args.places.now (omega arith))
    ∙ ap₂ (λ l t. painted c.args.page.now (seen s (within (places_from l t c.args.places.now) (outside_of (frame_zone c.args.paper))))) (to_z-of_z c.ranges.left) (to_z-of_z c.ranges.top)
