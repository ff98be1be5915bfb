-- The print of a page never leaves its paper.
use Rattle.std.proofs.Common.{◌≡◌, inl, inr, ℕ, ◌+◌, ◌-◌, ◌*◌, ◌≤◌, ◌<◌, Bool, true, false, not, ◌||◌, if◌then◌else◌, List, [], ℤ, pos, negsuc, ◌-ℤ◌, ◌≤ℤ◌, ◌<ℤ◌, refl, sym, ◌∙◌, arith}
use Rattle.std.specs.Prelude.{slice_index_or}
use Rattle.std.proofs.lemmas.Int.{ints}
use Rattle.std.proofs.lemmas.Bool.{cases_lt, false≢true}
use Rattle.vx_base.proofs.Booleans.{and-left, or-cases, is-false}
use Rattle.vx_plane.specs.Plane.{Pixels, page_of, dark_at, any_of, nowhere}
use Rattle.vx_plane.proofs.Pages.{rectangle-sides, in_any-some, any_of-some, dark_at-inside, dark_at-beside, dark_at-under}
use Rattle.vx_grid.specs.declared.paper.Paper.{Paper}
use Rattle.vx_grid.specs.Paper.{last_row, first_y, page_width, page_height}
use Rattle.vx_grid.specs.Grid.{x_of, y_of, first_code_row}
use Rattle.vx_grid.specs.Marks.{timing_marks}
use Rattle.vx_grid.specs.Regions.{inner_region, frame_zone}
use Rattle.vx_grid.proofs.Papers.{last-row_low, first-y_low, height-is}
use Rattle.vx_code.specs.Code.{place_of_box}
use Rattle.vx_layout.specs.declared.bubbles.Bubble.{Bubble}
use Rattle.vx_layout.specs.declared.lines.TextLine.{TextLine}
use Rattle.vx_layout.specs.declared.pages.PagePlan.{PagePlan}
use Rattle.vx_layout.specs.Pages.{IsOnGrid}
use Rattle.vx_layout.specs.Zones.{bubble_box_of}
use Rattle.vx_layout.specs.Print.{box_pixels, printed_box, code_pixels, outline, bubble_pixels, line_pixels, print_of}
use Rattle.vx_layout.specs.Printed.{KeepsClear}
use Rattle.vx_margin.specs.Marks.{IsInMark}
use Rattle.vx_margin.specs.Laws.{TimingMarksAreMarks}
use Rattle.vx_scan_model.specs.Ink.{bubble_at}
use Rattle.vx_simulate.proofs.Inking.{no_bubble, box-sides}

-- a place of a frame of so many columns and rows
pub record IsOnPage (width height : ℕ) (x y : ℤ) : Type 0 where
  pub left : pos 0 ≤ℤ x
  pub right : x <ℤ pos width
  pub top : pos 0 ≤ℤ y
  pub bottom : y <ℤ pos height

-- a set that lies in the frame is dark on its page where it is
pub dark-all : (width height : ℕ) (set : Pixels) → ((x y : ℤ) → set x y ≡ true → IsOnPage width height x y) → (x y : ℤ) → dark_at (page_of width height set) x y ≡ set x y
dark-all width height set within (pos x) (pos y) =
    elim (cases_lt x width) [
      | inl across ↦ elim (cases_lt y height) [
        | inl down ↦ dark_at-inside width height x y set across down
        | inr under ↦ dark_at-under width height x y set under ∙ sym (is-false (set (pos x) (pos y)) (λ h. let at = within (pos x) (pos y) h in absurd (omega (arith, ints, at.bottom, under))))
      ]
      | inr beside ↦ dark_at-beside width height x y set beside ∙ sym (is-false (set (pos x) (pos y)) (λ h. let at = within (pos x) (pos y) h in absurd (omega (arith, ints, at.right, beside))))
    ]
dark-all width height set within (pos x) (negsuc y) = sym (is-false (set (pos x) (negsuc y)) (λ h. let at = within (pos x) (negsuc y) h in absurd (omega (arith, ints, at.top))))
dark-all width height set within (negsuc x) y = sym (is-false (set (negsuc x) y) (λ h. let at = within (negsuc x) y h in absurd (omega (arith, ints, at.left))))

-- a page is dark nowhere but in its frame
pub dark-framed : (width height : ℕ) (set : Pixels) (x y : ℤ) → dark_at (page_of width height set) x y ≡ true → IsOnPage width height x y
dark-framed width height set (pos x) (pos y) h =
    elim (cases_lt x width) [
      | inl across ↦ elim (cases_lt y height) [
        | inl down ↦ record { left = omega (arith, ints); right = omega (arith, ints, across); top = omega (arith, ints); bottom = omega (arith, ints, down) }
        | inr under ↦ absurd (false≢true (sym (dark_at-under width height x y set under) ∙ h))
      ]
      | inr beside ↦ absurd (false≢true (sym (dark_at-beside width height x y set beside) ∙ h))
    ]
dark-framed width height set (pos x) (negsuc y) h = absurd (false≢true h)
dark-framed width height set (negsuc x) y h = absurd (false≢true h)

mark-on_page : (paper : Paper) (c r : ℕ) (x y : ℤ) → c ≤ 33 → r ≤ last_row paper → IsInMark paper c r x y → IsOnPage page_width (page_height paper) x y
mark-on_page paper c r x y column row m =
    let height = height-is paper in
    let first = first-y_low paper in
    record {
      left = omega (arith, ints, m.left);
      right = omega (arith, ints, m.right, column);
      top = omega (arith, ints, m.top, first);
      bottom = omega (arith, ints, m.bottom, row, height, first);
    }

inner-on_page : (paper : Paper) (x y : ℤ) → inner_region paper x y ≡ true → IsOnPage page_width (page_height paper) x y
inner-on_page paper x y h =
    let height = height-is paper in
    let sides = rectangle-sides (pos 178) (pos (first_y paper + 130)) 1344 (52 * last_row paper - 260) x y h in
    record {
      left = omega (arith, ints, sides.0);
      right = omega (arith, ints, sides.1);
      top = omega (arith, ints, sides.2);
      bottom = omega (arith, ints, sides.3, height);
    }

-- a box of the page code lies on the page
code-box-on_page : (paper : Paper) (n : ℕ) (x y : ℤ) → n < 84 → box_pixels paper n x y ≡ true → IsOnPage page_width (page_height paper) x y
unfolding box_pixels
code-box-on_page paper n x y few h =
    let c : ℕ = (place_of_box paper n).0 in
    let r : ℕ = (place_of_box paper n).1 in
    let sides = rectangle-sides (pos (x_of c) -ℤ pos 14) (pos (y_of paper r) -ℤ pos 10) 28 20 x y h in
    let column : c ≤ 30 = omega arith in
    let row : r ≤ first_code_row paper + 2 = omega arith in
    let many = last-row_low paper in
    let height = height-is paper in
    let first = first-y_low paper in
    record {
      left = omega (arith, ints, sides.0);
      right = omega (arith, ints, sides.1, column);
      top = omega (arith, ints, sides.2, first);
      bottom = omega (arith, ints, sides.3, row, height, first, many);
    }

-- the box of a bubble on the grid lies there
pub box-on_page : (paper : Paper) (bubble : Bubble) (x y : ℤ) → IsOnGrid paper bubble → bubble_box_of paper bubble x y ≡ true → IsOnPage page_width (page_height paper) x y
box-on_page paper bubble x y grid h =
    let sides = rectangle-sides (pos (x_of bubble.col) -ℤ pos 20) (pos (y_of paper bubble.row) -ℤ pos 13) 40 26 x y h in
    let height = height-is paper in
    let first = first-y_low paper in
    record {
      left = omega (arith, ints, sides.0, grid.col);
      right = omega (arith, ints, sides.1, grid.col, grid.few);
      top = omega (arith, ints, sides.2, first);
      bottom = omega (arith, ints, sides.3, grid.high, height, first);
    }

-- and so does its outline
outline-on_page : (paper : Paper) (bubble : Bubble) (x y : ℤ) → IsOnGrid paper bubble → bubble_pixels paper bubble x y ≡ true → IsOnPage page_width (page_height paper) x y
unfolding bubble_pixels outline
outline-on_page paper bubble x y grid h = box-on_page paper bubble x y grid (box-sides paper bubble x y (and-left _ _ h))

-- a place outside the frame zone lies on the page
unframed-on_page : (paper : Paper) (x y : ℤ) → (frame_zone paper x y ≡ true → ⊥) → IsOnPage page_width (page_height paper) x y
unframed-on_page paper x y unframed = by_region (inner_region paper x y) refl
  where
    not-false : (b : Bool) → b ≡ false → not b ≡ true
    not-false true h = absurd (false≢true (sym h))
    not-false false h = refl

    by_region : (inner : Bool) → inner_region paper x y ≡ inner → IsOnPage page_width (page_height paper) x y
    by_region true is = inner-on_page paper x y is
    by_region false is = absurd (unframed (not-false (inner_region paper x y) is))

abbrev no_line : TextLine
no_line = record { x = 0; y = 0; text = [] }

module _ (are : TimingMarksAreMarks) (plan : PagePlan) (keeps : KeepsClear plan) (boxes : List Bool) where
  -- a printed box of the page code is a box
  box-of : (n : ℕ) (x y : ℤ) → printed_box plan.paper boxes n x y ≡ true → box_pixels plan.paper n x y ≡ true
  box-of n x y = printed (slice_index_or boxes n false)
    where
      printed : (is : Bool) → (if is then box_pixels plan.paper n else nowhere) x y ≡ true → box_pixels plan.paper n x y ≡ true
      printed true h = h
      printed false h = cc

  code-on_page : (x y : ℤ) → code_pixels plan.paper boxes x y ≡ true → IsOnPage page_width (page_height plan.paper) x y
  unfolding code_pixels
  code-on_page x y h =
      let k = in_any-some 84 (printed_box plan.paper boxes) x y h in
      code-box-on_page plan.paper k.0 x y k.1 (box-of k.0 x y k.2)

  on-page : (x y : ℤ) → print_of plan boxes x y ≡ true → IsOnPage page_width (page_height plan.paper) x y
  unfolding print_of
  on-page x y h =
      or-cases (timing_marks plan.paper x y || code_pixels plan.paper boxes x y) _ h
      (λ upper. or-cases (timing_marks plan.paper x y) (code_pixels plan.paper boxes x y) upper
      (λ marked. let m = (are plan.paper).some x y marked in mark-on_page plan.paper m.0 m.1 x y m.2.column m.2.row m.3)
      (λ code. code-on_page x y code))
      (λ lower. or-cases (any_of plan.bubbles (bubble_pixels plan.paper) x y) (any_of plan.texts line_pixels x y) lower
      (λ some. let k = any_of-some plan.bubbles no_bubble (bubble_pixels plan.paper) x y some in
      outline-on_page plan.paper (bubble_at plan k.0) x y (keeps.on_grid k.0 no_bubble k.1) k.2)
      (λ some. let k = any_of-some plan.texts no_line line_pixels x y some in
      unframed-on_page plan.paper x y (λ zone. (keeps.clear.text_from_frame k.0 no_line k.1).apart x y k.2 zone)))

  -- so the printed page is dark where the print is
  pub dark-print : (x y : ℤ) → dark_at (page_of page_width (page_height plan.paper) (print_of plan boxes)) x y ≡ print_of plan boxes x y
  dark-print = dark-all page_width (page_height plan.paper) (print_of plan boxes) on-page
