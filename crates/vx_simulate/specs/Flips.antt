-- The pixels that a simulated scanner gets wrong. This project's own rule.
use Rattle.std.specs.Prelude.{◌≡◌, ◌<◌, ℕ, All, ◌+◌, ◌*◌, ◌/◌, ◌%◌, ◌&&◌, not, List, length, slice_index_or, ℤ, pos, ◌+ℤ◌, ◌-ℤ◌, []}
use Rattle.std.specs.Ordering.{int_eq}
use Rattle.std.specs.List.{list_any, range_with_len}
use Rattle.rand_pcg.specs.Lcg.{Lcg}
use Rattle.vx_plane.specs.Plane.{Pixels, union, in_any}
use Rattle.vx_grid.specs.declared.paper.Paper.{Paper}
use Rattle.vx_grid.specs.declared.sizes.HalfSides.{HalfSides}
use Rattle.vx_grid.specs.Grid.{x_of, y_of}
use Rattle.vx_grid.specs.Sizes.{bubble, code_box, zone_of}
use Rattle.vx_grid.specs.Regions.{frame_zone}
use Rattle.vx_code.specs.Code.{place_of_box}
use Rattle.vx_layout.specs.declared.bubbles.Bubble.{Bubble}
use Rattle.vx_layout.specs.declared.pages.PagePlan.{PagePlan}
use Rattle.vx_layout.specs.Zones.{code_zones}
use Rattle.vx_scan_model.specs.Ink.{bubble_at}
use Rattle.vx_geom.specs.Slants.{Slant}
use Rattle.vx_geom.specs.Seen.{seen}
use Rattle.vx_simulate.specs.Lie.{frame_width, frame_height}
use Rattle.vx_simulate.specs.declared.flips.Flips.{Flips}
use Rattle.vx_simulate.specs.Draws.{draw_places, draw_all}

-- places by their offsets, column and row, from a corner
abbrev pub places_from : ℤ → ℤ → List (ℕ × ℕ) → Pixels
places_from left top places u v =
    list_any (λ (at : ℕ × ℕ). int_eq u (left +ℤ pos at.0) && int_eq v (top +ℤ pos at.1)) places

-- places in a zone round a grid point
abbrev pub places_round : Paper → HalfSides → ℕ → ℕ → List (ℕ × ℕ) → Pixels
places_round paper half c r =
    places_from (pos (x_of c) -ℤ pos half.across) (pos (y_of paper r) -ℤ pos half.down)

-- 12 places in the zone of each bubble
abbrev pub draw_at_bubbles : PagePlan → Lcg → List (List (ℕ × ℕ)) × Lcg
draw_at_bubbles plan =
    draw_all (λ (one : Bubble). draw_places 12 72 50) plan.bubbles

-- 40 places in the zone of each box of the page code
abbrev pub draw_at_boxes : Lcg → List (List (ℕ × ℕ)) × Lcg
draw_at_boxes = draw_all (λ (n : ℕ). draw_places 40 60 44) (range_with_len 0 84)

-- tiles of 46 by 22 pixels that cover the frame: how many in a row, and in how many rows
abbrev pub tile_columns : ℕ
tile_columns = (frame_width + 45) / 46

abbrev pub tile_rows : Paper → ℕ
tile_rows paper = (frame_height paper + 21) / 22

-- 5 places in each tile, row by row
abbrev pub draw_in_tiles : Paper → Lcg → List (List (ℕ × ℕ)) × Lcg
draw_in_tiles paper = draw_all (λ (n : ℕ). draw_places 5 46 22) (range_with_len 0 (tile_columns * tile_rows paper))

-- the places that were drawn at bubbles, on the paper
abbrev pub bubble_places : PagePlan → List (List (ℕ × ℕ)) → ℕ → Pixels
bubble_places plan drawn n =
    places_round plan.paper (zone_of bubble) (bubble_at plan n).col (bubble_at plan n).row (slice_index_or drawn n [])

-- those that were drawn at boxes of the page code, outside the frame zone
abbrev pub box_places : Paper → List (List (ℕ × ℕ)) → ℕ → Pixels
box_places paper drawn n x y =
    places_round paper (zone_of code_box) (place_of_box paper n).0 (place_of_box paper n).1 (slice_index_or drawn n []) x y
    && not (frame_zone paper x y)

-- those that were drawn in tiles, in the scan
abbrev pub tile_places : List (List (ℕ × ℕ)) → ℕ → Pixels
tile_places drawn n =
    places_from (pos (46 * (n % tile_columns))) (pos (22 * (n / tile_columns))) (slice_index_or drawn n [])

-- what is drawn of a scan's flips
abbrev pub draw_flips : PagePlan → Lcg → Flips × Lcg
draw_flips plan g =
    let bubbles = draw_at_bubbles plan g in
    let boxes = draw_at_boxes bubbles.1 in
    let tiles = draw_in_tiles plan.paper boxes.1 in
    (record { at_bubbles = bubbles.0; at_boxes = boxes.0; in_tiles = tiles.0 }, tiles.1)

-- so many lists of places, each place in a rectangle of so many columns and rows
pub record AreDrawnIn (many width height : ℕ) (lists : List (List (ℕ × ℕ))) : Type 0 where
  pub all : length lists ≡ many
  pub within : All (All (λ (at : ℕ × ℕ). (at.0 < width) × (at.1 < height))) lists

-- lists such as are drawn for a page
pub record AreFlipsOf (plan : PagePlan) (drawn : Flips) : Type 0 where
  pub at_bubbles : AreDrawnIn (length plan.bubbles) 72 50 drawn.at_bubbles
  pub at_boxes : AreDrawnIn 84 60 44 drawn.at_boxes
  pub in_tiles : AreDrawnIn (tile_columns * tile_rows plan.paper) 46 22 drawn.in_tiles

-- the flips that are drawn on the paper: at bubbles and at boxes
unfoldable pub paper_flips : PagePlan → Flips → Pixels
paper_flips plan drawn =
    union (in_any (length plan.bubbles) (bubble_places plan drawn.at_bubbles)) (in_any 84 (box_places plan.paper drawn.at_boxes))

-- those that are drawn in the scan: in tiles, where the scan shows the frame zone, but no zone of the page code
unfoldable pub scan_flips : Slant → Paper → Flips → Pixels
scan_flips s paper drawn u v =
    in_any (tile_columns * tile_rows paper) (tile_places drawn.in_tiles) u v
    && (seen s (frame_zone paper) u v && not (seen s (code_zones paper) u v))

-- all flips of a scan
unfoldable pub drawn_flips : Slant → PagePlan → Flips → Pixels
drawn_flips s plan drawn = union (seen s (paper_flips plan drawn)) (scan_flips s plan.paper drawn)
