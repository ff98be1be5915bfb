use Rattle.std.proofs.Common.{◌≡◌, ◌*◌, [], refl, ap, get_or, pos, ◌∙◌, arith, ◌%◌, ◌/◌}
use Rattle.std.proofs.lemmas.List.{get_or_read}
use Rattle.vx_plane.specs.Plane.{painted}
use Rattle.vx_geom.specs.Slants.{slant_of}
use Rattle.vx_simulate.specs.Flips.{tile_places, places_from}
use Rattle.vx_simulate.specs.Flipped.{shown_frame, within}
use Rattle.vx_simulate.proofs.Laid.{laid-none, next-within}
use Rattle.vx_simulate.proofs.scan_flips.flip_in_tiles.Goals as goal

pub loop-n-init : goal.loop-n-init
loop-n-init c = laid-none c.args.page.now _ c.width-columns.ensures.whole (λ u v. refl)

pub loop-n-preserved : goal.loop-n-preserved
loop-n-preserved c =
    let zone = shown_frame (slant_of c.args.shear) c.args.paper in
    let n = c.loop-n.n in
    let places : c.as_slice.result.now ≡ get_or c.args.drawn.now n [] =
    c.as_slice.ensures ∙ get_or_read c.args.drawn.now n c.index-drawn-n.result (omega (arith, c.loop-n-test.true, c.requires.drawn.all, c.tile_rows-n-end.ensures)) c.index-drawn-n.is [] in
    next-within c.args.page.now c.loop-n.page c.flip_framed_places.new.page n (tile_places c.args.drawn.now) zone c.loop-n.invariant
    (c.flip_framed_places.ensures
    ∙ ap (λ ps. painted c.loop-n.page (within (places_from (pos (46 * (n % 40))) (pos (22 * (n / 40))) ps) zone)) places)
