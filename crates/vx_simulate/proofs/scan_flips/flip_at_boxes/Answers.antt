use Rattle.std.proofs.Common.{◌≡◌, ◌<◌, [], refl, ap, get_or, ◌∙◌, arith}
use Rattle.std.proofs.lemmas.List.{get_or_read}
use Rattle.vx_plane.specs.Plane.{painted, in_any}
use Rattle.vx_plane.specs.Count.{outside_of}
use Rattle.vx_grid.specs.Regions.{frame_zone}
use Rattle.vx_grid.specs.Sizes.{code_box, zone_of}
use Rattle.vx_code.specs.Code.{place_of_box}
use Rattle.vx_geom.specs.Slants.{slant_of}
use Rattle.vx_geom.specs.Seen.{seen}
use Rattle.vx_simulate.specs.Flips.{box_places, places_round}
use Rattle.vx_simulate.specs.Flipped.{within}
use Rattle.vx_simulate.proofs.Laid.{laid-none, next-seen}
use Rattle.vx_simulate.proofs.scan_flips.flip_at_boxes.Goals as goal

pub loop-n-init : goal.loop-n-init
loop-n-init c = laid-none c.args.page.now _ c.width-columns.ensures.whole (λ u v. refl)

pub loop-n-preserved : goal.loop-n-preserved
loop-n-preserved c =
    let s = slant_of c.args.shear in
    let n = c.loop-n.n in
    let place = place_of_box c.args.paper n in
    let inside : n < 84 = omega arith in
    let places : c.as_slice.result.now ≡ get_or c.args.drawn.now n [] =
    c.as_slice.ensures ∙ get_or_read c.args.drawn.now n c.index-drawn-n.result (omega (arith, inside, c.requires.drawn.all)) c.index-drawn-n.is [] in
    next-seen s c.args.page.now c.loop-n.page c.flip_at_box.new.page n (box_places c.args.paper c.args.drawn.now) c.loop-n.invariant
    (c.flip_at_box.ensures
    ∙ ap (λ ps. painted c.loop-n.page (seen s (within (places_round c.args.paper (zone_of code_box) place.0 place.1 ps) (outside_of (frame_zone c.args.paper))))) places)

pub returns : goal.returns
returns c =
    let all : c.loop-n.n ≡ 84 = omega arith in
    c.loop-n.invariant ∙ ap (λ n. painted c.args.page.now (seen (slant_of c.args.shear) (in_any n (box_places c.args.paper c.args.drawn.now)))) all
