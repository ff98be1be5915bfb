-- What is printed on a page, as a set of pixels: this project's own geometry.
use Rattle.std.specs.Prelude.{ℕ, ◌+◌, ◌-◌, ◌*◌, List, length, chars, slice_index, slice_index_or, Bool, false, ◌&&◌, not, if◌then◌else◌, pos, ◌+ℤ◌, ◌*ℤ◌, int_le}
use Rattle.vx_plane.specs.Plane.{Pixels, nowhere, union, rectangle, in_any, any_of, placed}
use Rattle.vx_grid.specs.declared.paper.Paper.{Paper}
use Rattle.vx_grid.specs.Grid.{x_of, y_of}
use Rattle.vx_grid.specs.Sizes as sizes
use Rattle.vx_grid.specs.Sizes.{round}
use Rattle.vx_grid.specs.Marks.{timing_marks}
use Rattle.vx_code.specs.Code.{place_of_box}
use Rattle.vx_font.specs.Font.{dot_of}
use Rattle.vx_layout.specs.declared.bubbles.Bubble.{Bubble}
use Rattle.vx_layout.specs.declared.lines.TextLine.{TextLine}
use Rattle.vx_layout.specs.declared.pages.PagePlan.{PagePlan}

-- box n of the page code, round its grid point
unfoldable pub box_pixels : Paper → ℕ → Pixels
box_pixels paper n = round sizes.code_box (x_of (place_of_box paper n).0) (y_of paper (place_of_box paper n).1)

-- box n, where it is one of those that are printed
abbrev pub printed_box : Paper → List Bool → ℕ → Pixels
printed_box paper boxes n = if slice_index_or boxes n false then box_pixels paper n else nowhere

-- the printed boxes of the page code
unfoldable pub code_pixels : Paper → List Bool → Pixels
code_pixels paper boxes = in_any 84 (printed_box paper boxes)

-- the offsets in an ellipse whose two half axes are a and b half pixels: the centre of a pixel at
-- offset i stands 2 i + 1 half pixels off the middle
abbrev pub ellipse : ℕ → ℕ → Pixels
ellipse a b i j =
    let p = pos 2 *ℤ i +ℤ pos 1 in
    let q = pos 2 *ℤ j +ℤ pos 1 in
    int_le (pos (b * b) *ℤ (p *ℤ p) +ℤ pos (a * a) *ℤ (q *ℤ q)) (pos (a * a * (b * b)))

-- the box of a bubble, as offsets
abbrev pub bubble_box : Pixels
bubble_box = round sizes.bubble 0 0

-- the ellipse that a bubble's box holds, as offsets, and the one two pixels inside it
abbrev pub outer_ellipse : Pixels
outer_ellipse = ellipse (2 * sizes.bubble.across) (2 * sizes.bubble.down)

abbrev pub inner_ellipse : Pixels
inner_ellipse = ellipse (2 * (sizes.bubble.across - 2)) (2 * (sizes.bubble.down - 2))

-- the outline of a bubble, as offsets: what lies between the two ellipses
unfoldable pub outline : Pixels
outline i j = bubble_box i j && (outer_ellipse i j && not (inner_ellipse i j))

-- the outline of a bubble on its page
unfoldable pub bubble_pixels : Paper → Bubble → Pixels
bubble_pixels paper bubble = placed (pos (x_of bubble.col)) (pos (y_of paper bubble.row)) outline

-- a dot of a character's glyph, 2 by 2 pixels, where it is dark
abbrev pub dot_pixels : ℕ → ℕ → ℕ → ℕ → ℕ → Pixels
dot_pixels c x y column row =
    if dot_of c column row then rectangle (pos (x + 2 * column)) (pos (y + 2 * row)) 2 2 else nowhere

-- a column of dots
unfoldable pub column_pixels : ℕ → ℕ → ℕ → ℕ → Pixels
column_pixels c x y column = in_any 7 (dot_pixels c x y column)

-- a character in the cell at a place
unfoldable pub glyph_pixels : ℕ → ℕ → ℕ → Pixels
glyph_pixels c x y = in_any 5 (column_pixels c x y)

-- character i of a line
abbrev pub character_pixels : TextLine → ℕ → Pixels
character_pixels line i = glyph_pixels (slice_index (chars line.text) i) (line.x + 12 * i) line.y

-- the dark dots of a line
unfoldable pub line_pixels : TextLine → Pixels
line_pixels line = in_any (length (chars line.text)) (character_pixels line)

-- the print of a planned page with the boxes of its code: timing marks, code boxes, outlines, dots
unfoldable pub print_of : PagePlan → List Bool → Pixels
print_of plan boxes =
    union (union (timing_marks plan.paper) (code_pixels plan.paper boxes))
    (union (any_of plan.bubbles (bubble_pixels plan.paper)) (any_of plan.texts line_pixels))
