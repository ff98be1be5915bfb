-- What has to keep clear of what on a page: this project's own geometry.
use Rattle.std.specs.Prelude.{◌≡◌, ◌≢◌, ◌<◌, ℕ, ◌+◌, ◌*◌, All, length, chars, slice_index_or, true, pos, ℤ}
use Rattle.vx_plane.specs.Plane.{Pixels, rectangle, in_any}
use Rattle.vx_grid.specs.declared.paper.Paper.{Paper}
use Rattle.vx_grid.specs.Grid.{x_of, y_of}
use Rattle.vx_grid.specs.Sizes as sizes
use Rattle.vx_grid.specs.Sizes.{zone_of, round}
use Rattle.vx_grid.specs.Regions.{frame_zone}
use Rattle.vx_code.specs.Code.{place_of_box, reserved_place}
use Rattle.vx_layout.specs.declared.bubbles.Bubble.{Bubble}
use Rattle.vx_layout.specs.declared.lines.TextLine.{TextLine}
use Rattle.vx_layout.specs.declared.pages.PagePlan.{PagePlan}
use Rattle.vx_layout.specs.declared.plan.CardPlan.{CardPlan}
use Rattle.vx_layout.specs.Print.{line_pixels}

-- the zone of a bubble
abbrev pub bubble_zone_of : Paper → Bubble → Pixels
bubble_zone_of paper bubble = round (zone_of sizes.bubble) (x_of bubble.col) (y_of paper bubble.row)

-- the box of a bubble
abbrev pub bubble_box_of : Paper → Bubble → Pixels
bubble_box_of paper bubble = round sizes.bubble (x_of bubble.col) (y_of paper bubble.row)

-- the zone of a box of the page code that stands at a grid column and row
abbrev pub box_zone_at : Paper → ℕ × ℕ → Pixels
box_zone_at paper place = round (zone_of sizes.code_box) (x_of place.0) (y_of paper place.1)

-- the zones of all boxes of the page code
unfoldable pub code_zones : Paper → Pixels
code_zones paper = in_any 84 (λ n. box_zone_at paper (place_of_box paper n))

-- the reserved zones, where the page code is seen on a page that is turned by 180 degrees
unfoldable pub reserved_zones : Paper → Pixels
reserved_zones paper = in_any 84 (λ n. box_zone_at paper (reserved_place n))

-- the cell of character i of a line, dark or blank: 12 pixels wide, and as high as the lines of a row
-- stand apart
abbrev pub cell_pixels : TextLine → ℕ → Pixels
cell_pixels line i = rectangle (pos (line.x + 12 * i)) (pos line.y) 12 20

-- the cells of a line
unfoldable pub line_cells : TextLine → Pixels
line_cells line = in_any (length (chars line.text)) (cell_pixels line)

-- two sets have no place in common
pub record Apart (a b : Pixels) : Type 0 where
  pub apart : (u v : ℤ) → a u v ≡ true → b u v ≡ true → ⊥

-- the zones of a page's bubbles keep clear of a set
abbrev pub ZonesKeepClearOf : PagePlan → Pixels → Type 0
ZonesKeepClearOf page set = All (λ (bubble : Bubble). Apart (bubble_zone_of page.paper bubble) set) page.bubbles

-- the dark dots of a page's texts keep clear of a set
abbrev pub DotsKeepClearOf : PagePlan → Pixels → Type 0
DotsKeepClearOf page set = All (λ (line : TextLine). Apart (line_pixels line) set) page.texts

-- the zones of bubbles keep clear of the dark dots of texts, of the zones of the page code, of the
-- reserved zones and of the frame zone, and the dark dots of texts keep clear of those three
pub record IsClear (page : PagePlan) : Type 0 where
  pub zones_from_text : All (λ (line : TextLine). ZonesKeepClearOf page (line_pixels line)) page.texts
  pub zones_from_code : ZonesKeepClearOf page (code_zones page.paper)
  pub zones_from_reserved : ZonesKeepClearOf page (reserved_zones page.paper)
  pub zones_from_frame : ZonesKeepClearOf page (frame_zone page.paper)
  pub text_from_code : DotsKeepClearOf page (code_zones page.paper)
  pub text_from_reserved : DotsKeepClearOf page (reserved_zones page.paper)
  pub text_from_frame : DotsKeepClearOf page (frame_zone page.paper)

-- the zones of bubbles meet no text: no cell of one
pub record ZonesMeetNoText (page : PagePlan) : Type 0 where
  pub each : All (λ (line : TextLine). ZonesKeepClearOf page (line_cells line)) page.texts

-- so on every page of a plan
abbrev pub ZonesMeetNoTextInPlan : CardPlan → Type 0
ZonesMeetNoTextInPlan plan = All ZonesMeetNoText plan.pages

-- the zone of each bubble keeps clear of the box of every other bubble of its page
pub record AreApart (page : PagePlan) : Type 0 where
  pub each :
      (i j : ℕ) (d : Bubble) → i < length page.bubbles → j < length page.bubbles → i ≢ j
      → Apart (bubble_zone_of page.paper (slice_index_or page.bubbles i d))
      (bubble_box_of page.paper (slice_index_or page.bubbles j d))

-- so on every page of a plan
abbrev pub AreApartInPlan : CardPlan → Type 0
AreApartInPlan plan = All AreApart plan.pages

-- what a line prints lies in its cells
abbrev pub DotsLieInCells : Type 0
DotsLieInCells = (line : TextLine) (u v : ℤ) → line_pixels line u v ≡ true → line_cells line u v ≡ true

-- every page of a plan is clear
abbrev pub IsClearPlan : CardPlan → Type 0
IsClearPlan plan = All IsClear plan.pages
