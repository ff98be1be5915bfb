-- The part of a page round a contest: where its block stands by the grid, and its bubbles were found, in pixels of the upright
-- page.
use Rattle.std.specs.Prelude.{◌<◌, ◌≤◌, ℕ, ◌+◌, ◌-◌, ◌^◌, ◌==◌, min, max, fold, if◌then◌else◌, ℤ, pos, negsuc, ◌+ℤ◌, ◌-ℤ◌}
use Rattle.std.specs.Int.{int_max, int_min}
use Rattle.vx_plane.specs.Plane.{Page}
use Rattle.vx_grid.specs.Borders.{MarkPlaces}
use Rattle.vx_grid.specs.declared.places.Point.{Point}
use Rattle.vx_fit.specs.Fit.{place_of}
use Rattle.vx_layout.specs.Blocks.{heading_rows}
use Rattle.vx_layout.specs.declared.bubbles.Bubble.{Bubble}
use Rattle.vx_election_model.specs.declared.contest.Contest.{Contest}
use Rattle.vx_election_model.specs.Options.{options_of}
use Rattle.vx_desk.specs.declared.region.Block.{Block}
use Rattle.vx_desk.specs.declared.region.Region.{Region}
use Rattle.vx_desk.specs.Shown.{Shown, first_bubble}

-- how far the picture reaches beside the block on each side: half a row of the grid, in pixels
abbrev pub margin : ℕ
margin = 25

-- the block of a contest whose first option has a bubble: from one column left of the bubbles to eight right of them, from
-- the title's row to the last option's
abbrev pub block_of : Contest → Bubble → Block
block_of contest bubble = record {
  left = bubble.col - 1;
  right = bubble.col + 8;
  top = bubble.row - heading_rows contest;
  bottom = bubble.row + options_of contest - 1;
}

-- a contest of a valid election has not very many options
abbrev pub HasFewOptions : Contest → Type 0
HasFewOptions contest = options_of contest < 2 ^ 32

-- the column or row of a frame of so many that is nearest to a whole number
abbrev pub nearest : ℕ → ℤ → ℕ
nearest size (pos n) = min n (size - 1)
nearest size (negsuc n) = 0

-- the margin before a column or row of a frame of so many, and the margin past it
abbrev pub before_one : ℕ → ℤ → ℕ
before_one size at = nearest size (at -ℤ pos margin)

abbrev pub past_one : ℕ → ℤ → ℕ
past_one size at = nearest size (at +ℤ pos margin)

-- where a picture begins and ends: the margin before the lesser of two corners, and the margin past the greater
abbrev pub before : ℕ → ℤ → ℤ → ℕ
before size a b = before_one size (int_min a b)

abbrev pub past : ℕ → ℤ → ℤ → ℕ
past size a b = past_one size (int_max a b)

-- the rectangle round the four corners of a block, which are grid places of a border, with the margin on each side, cut at
-- the page's frame
abbrev pub region_of : Page → MarkPlaces → Block → Region
region_of page border block = record {
  left = before page.width (place_of border block.left block.top).u (place_of border block.left block.bottom).u;
  right = past page.width (place_of border block.right block.top).u (place_of border block.right block.bottom).u;
  top = before page.height (place_of border block.left block.top).v (place_of border block.right block.top).v;
  bottom = past page.height (place_of border block.left block.bottom).v (place_of border block.right block.bottom).v;
}

-- a region that holds a place too, with the margin on each side
abbrev pub with_place : Page → Region → Point → Region
with_place page region place = record {
  left = min region.left (before_one page.width place.u);
  right = max region.right (past_one page.width place.u);
  top = min region.top (before_one page.height place.v);
  bottom = max region.bottom (past_one page.height place.v);
}

-- the place where the middle of a bubble was found
abbrev pub middle_of : Shown → Bubble → Point
middle_of shown bubble = place_of shown.reading.border bubble.col bubble.row

-- a region that holds the middle of a bubble too, if it is of the contest with a number
abbrev pub with_bubble : ℕ → Shown → Region → Bubble → Region
with_bubble number shown region bubble =
    if bubble.contest == number then with_place shown.page region (middle_of shown bubble) else region

-- the region round the block of a contest with a number, on the page that shows it
abbrev pub region_block : Contest → ℕ → Shown → Region
region_block contest number shown =
    region_of shown.page shown.reading.border (block_of contest (first_bubble number shown.bubbles))

-- the contest's region: that, and each of its bubbles, wherever between bent columns of timing marks it was found
abbrev pub region_round : Contest → ℕ → Shown → Region
region_round contest number shown =
    fold (with_bubble number shown) (region_block contest number shown) shown.bubbles

-- how many columns and rows a region has, at least one of each
abbrev pub width_of : Region → ℕ
width_of region = region.right - region.left + 1

abbrev pub height_of : Region → ℕ
height_of region = region.bottom - region.top + 1

-- how far a whole number is behind a column or row, and nothing where it lies before it
abbrev pub natural : ℤ → ℕ
natural (pos n) = n
natural (negsuc n) = 0

abbrev pub behind : ℕ → ℤ → ℕ
behind from at = natural (at -ℤ pos from)

-- a region lies in the frame of a page, which isn't too large
pub record IsInside (page : Page) (region : Region) : Type 0 where
  pub left : region.left < page.width
  pub right : region.right < page.width
  pub top : region.top < page.height
  pub bottom : region.bottom < page.height
  pub few_columns : page.width ≤ 4096
  pub few_rows : page.height ≤ 4096
