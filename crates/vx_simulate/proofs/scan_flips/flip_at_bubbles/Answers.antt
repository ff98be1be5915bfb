use Rattle.std.proofs.Common.{◌≡◌, ◌<◌, List, [], refl, ap, ap₂, get_or, length, ◌∙◌, arith}
use Rattle.std.proofs.lemmas.List.{get_or_read}
use Rattle.vx_plane.specs.Plane.{painted}
use Rattle.vx_grid.specs.Sizes.{bubble, zone_of}
use Rattle.vx_layout.specs.declared.bubbles.Bubble.{Bubble}
use Rattle.vx_scan_model.specs.Ink.{bubble_at}
use Rattle.vx_geom.specs.Slants.{slant_of}
use Rattle.vx_geom.specs.Seen.{seen}
use Rattle.vx_simulate.specs.Flips.{bubble_places, places_round}
use Rattle.vx_simulate.proofs.Laid.{laid-none, next-seen}
use Rattle.vx_simulate.proofs.scan_flips.flip_at_bubbles.Goals as goal

pub loop-n-init : goal.loop-n-init
loop-n-init c = laid-none c.args.page.now _ c.width-columns.ensures.whole (λ u v. refl)

pub loop-n-preserved : goal.loop-n-preserved
loop-n-preserved c =
    let s = slant_of c.args.shear in
    let n = c.loop-n.n in
    let plan = c.args.plan.now in
    let inside : n < length plan.bubbles = omega (arith, c.loop-n-test.true, ap length c.as_slice-bubbles.ensures) in
    let places : c.as_slice.result.now ≡ get_or c.args.drawn.now n [] =
    c.as_slice.ensures ∙ get_or_read c.args.drawn.now n c.index-drawn-n.result (omega (arith, inside, c.requires.drawn.all)) c.index-drawn-n.is [] in
    let here : get_or c.as_slice-bubbles.result.now n (record { contest = 0; option = 0; col = 0; row = 0 }) ≡ bubble_at plan n =
    ap (λ (bs : List Bubble). get_or bs n (record { contest = 0; option = 0; col = 0; row = 0 })) c.as_slice-bubbles.ensures in
    next-seen s c.args.page.now c.loop-n.page c.flip_at_bubble.new.page n (bubble_places plan c.args.drawn.now) c.loop-n.invariant
    (c.flip_at_bubble.ensures
    ∙ ap₂ (λ (b : Bubble) ps. painted c.loop-n.page (seen s (places_round plan.paper (zone_of bubble) b.col b.row ps))) here places)
