use Rattle.std.proofs.Common.{length, ◌*◌}
use Rattle.vx_plane.specs.Plane.{in_any}
use Rattle.vx_geom.specs.Slants.{slant_of}
use Rattle.vx_geom.specs.Seen.{seen}
use Rattle.vx_simulate.specs.Lie.{frame_width, frame_height}
use Rattle.vx_simulate.specs.Flips.{bubble_places, box_places, tile_places, tile_columns, tile_rows, paper_flips, scan_flips, drawn_flips}
use Rattle.vx_simulate.specs.Flipped.{within, shown_frame}
use Rattle.vx_simulate.proofs.Laid.{three-laid}
use Rattle.vx_simulate.proofs.scan_flips.flipped.Goals as goal

pub returns : goal.returns
unfolding drawn_flips paper_flips scan_flips
returns c =
    let s = slant_of c.args.shear in
    let plan = c.args.plan.now in
    let flips = c.args.flips.now in
    three-laid frame_width (frame_height plan.paper) c.in_ok-page.page _ _ _
    (seen s (in_any (length plan.bubbles) (bubble_places plan flips.at_bubbles)))
    (seen s (in_any 84 (box_places plan.paper flips.at_boxes)))
    (within (in_any (tile_columns * tile_rows plan.paper) (tile_places flips.in_tiles)) (shown_frame s plan.paper))
    (rw c.frame_height.ensures at c.in_ok-page.ensures)
    (rw c.as_slice.ensures at c.flip_at_bubbles.ensures)
    (rw c.as_slice-2.ensures at c.flip_at_boxes.ensures)
    (rw c.as_slice-3.ensures at c.flip_in_tiles.ensures)
