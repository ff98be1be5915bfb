use Rattle.std.proofs.Common.{refl, ap, ◌∙◌, pos, arith}
use Rattle.std.proofs.lemmas.List.{take_all}
use Rattle.vx_plane.specs.Plane.{painted}
use Rattle.vx_simulate.specs.Flips.{places_from}
use Rattle.vx_geom.specs.Slants.{slant_of}
use Rattle.vx_simulate.specs.Flipped.{shown_frame, within}
use Rattle.vx_simulate.proofs.Laid.{laid-none, next-place_within}
use Rattle.vx_simulate.proofs.scan_flips.flip_framed_places.Goals as goal

pub loop-place-init : goal.loop-place-init
loop-place-init c = laid-none c.args.page.now _ c.width-columns.ensures.whole (λ u v. refl)

pub loop-place-preserved : goal.loop-place-preserved
loop-place-preserved c =
    next-place_within c.args.page.now c.loop-place.page _ (pos c.args.left) (pos c.args.top) (shown_frame (slant_of c.args.shear) c.args.paper) c.args.places.now c.loop-place.place-index _ (omega arith)
    c.loop-place.invariant c.flip_framed.ensures

pub returns : goal.returns
returns c =
    c.loop-place.invariant
    ∙ ap (λ ps. painted c.args.page.now (within (places_from (pos c.args.left) (pos c.args.top) ps) (shown_frame (slant_of c.args.shear) c.args.paper))) (take_all c.loop-place.place-index c.args.places.now (omega arith))
