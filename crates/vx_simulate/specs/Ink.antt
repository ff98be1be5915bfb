-- The ink that a simulated voter leaves in the bubbles. This project's own rule.
use Rattle.std.specs.Prelude.{ℕ, ◌+◌, ◌-◌, ◌&&◌, min, List, Bool, true, false, nat_lt, ℤ, pos, ◌-ℤ◌, nat_abs, length, slice_index_or}
use Rattle.rand_pcg.specs.Lcg.{Lcg}
use Rattle.vx_plane.specs.Plane.{Pixels, union, in_any, placed, rectangle}
use Rattle.vx_plane.specs.Count.{count_in}
use Rattle.vx_grid.specs.declared.state.Thresholds.{Thresholds}
use Rattle.vx_grid.specs.Grid.{x_of, y_of}
use Rattle.vx_grid.specs.Sizes.{bubble, inner_pixels}
use Rattle.vx_layout.specs.declared.pages.PagePlan.{PagePlan}
use Rattle.vx_layout.specs.Print.{inner_ellipse, bubble_box}
use Rattle.vx_scan_model.specs.Ink.{bubble_at}
use Rattle.vx_simulate.specs.declared.ink.Ink.{Ink}
use Rattle.vx_simulate.specs.declared.ink.Ink.TheVariants.{FirstPixels, WholeBox}
use Rattle.vx_simulate.specs.Draws.{draw, draw_all}

-- how many places of a set come before a place, row by row from the left, from a corner on
abbrev pub before : ℤ → ℤ → ℕ → Pixels → ℤ → ℤ → ℕ
before left top width set u v =
    count_in left top width (nat_abs (v -ℤ top)) set + count_in left v (nat_abs (u -ℤ left)) 1 set

-- the first n places of a set in a rectangle, row by row from the left
abbrev pub first_of : ℤ → ℤ → ℕ → ℕ → Pixels → ℕ → Pixels
first_of left top width height set n u v =
    rectangle left top width height u v && (set u v && nat_lt (before left top width set u v) n)

-- the offsets that ink makes dark
unfoldable pub ink_pixels : Ink → Pixels
ink_pixels (FirstPixels n) =
    first_of (pos 0 -ℤ pos bubble.across) (pos 0 -ℤ pos bubble.down) (bubble.across + bubble.across) (bubble.down + bubble.down) inner_ellipse n
ink_pixels WholeBox = bubble_box

-- a mark has at least 12 pixels more than the definite threshold; where there isn't room for them inside the outline,
-- the whole box is dark and nothing is drawn
abbrev pub draw_mark : Bool → Thresholds → Lcg → Ink × Lcg
draw_mark true thresholds g = (WholeBox, g)
draw_mark false thresholds g =
    let more = draw (inner_pixels - thresholds.def - 11) g in (FirstPixels (thresholds.def + 12 + more.0), more.1)

-- the ink of a bubble that is marked or not: a slip of the pen has at least 13 pixels fewer than the marginal threshold
abbrev pub draw_ink : Thresholds → Bool → Lcg → Ink × Lcg
draw_ink thresholds true g = draw_mark (nat_lt 612 thresholds.def) thresholds g
draw_ink thresholds false g =
    let some = draw (thresholds.marg - 12) g in (FirstPixels (min inner_pixels some.0), some.1)

-- the ink of all bubbles of a page, by their marks
abbrev pub draw_inks : Thresholds → List Bool → Lcg → List Ink × Lcg
draw_inks thresholds = draw_all (draw_ink thresholds)

-- the ink of bubble n, on the paper
abbrev pub inked_bubble : PagePlan → List Ink → ℕ → Pixels
inked_bubble plan inks n =
    let at = bubble_at plan n in
    placed (pos (x_of at.col)) (pos (y_of plan.paper at.row)) (ink_pixels (slice_index_or inks n (FirstPixels 0)))

-- the paper: a print, and the ink of its bubbles
unfoldable pub inked : PagePlan → List Ink → Pixels → Pixels
inked plan inks print = union print (in_any (length plan.bubbles) (inked_bubble plan inks))
