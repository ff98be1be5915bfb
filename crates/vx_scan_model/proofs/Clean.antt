-- The clean print of a page, sheared, fits that page.
use Rattle.std.proofs.Common.{◌≡◌, ℕ, ◌≤◌, ◌<◌, Bool, true, false, not, ◌&&◌, length, ℤ, pos, ◌+ℤ◌, ◌-ℤ◌, ◌*ℤ◌, ◌≤ℤ◌, ◌<ℤ◌, refl, ap, sym, subst, ◌∙◌, arith}
use Rattle.std.specs.Prelude.{slice_index_or}
use Rattle.std.proofs.lemmas.Int.{ints}
use Rattle.std.specs.Int.{int_div_euclid}
use Rattle.std.proofs.Math.IntN.{zero-*ℤ}
use Rattle.std.proofs.lemmas.List.{get_or-map, length-map}
use Rattle.vx_base.proofs.Booleans.{not-both, and-no}
use Rattle.vx_plane.specs.Plane.{Pixels, Page, page_of, nowhere, dark_at, rectangle}
use Rattle.vx_plane.specs.Count.{count_in}
use Rattle.vx_plane.proofs.Counts.{count_in-none}
use Rattle.vx_plane.proofs.Pages.{dark_at-in_frame, rectangle-sides, rectangle-inside, page_of-same}
use Rattle.vx_grid.specs.declared.paper.Paper.{Paper}
use Rattle.vx_grid.specs.declared.paper.Paper.TheVariants.{Letter, Legal}
use Rattle.vx_grid.specs.Paper.{page_width, page_height, last_row, first_y}
use Rattle.vx_grid.specs.Marks.{marks as marks_of, mark_of}
use Rattle.vx_grid.specs.Grid.{x_of, y_of, first_code_row}
use Rattle.vx_grid.specs.Regions.{frame_zone}
use Rattle.vx_code.specs.Code.{place_of_box, reserved_place}
use Rattle.vx_layout.specs.declared.bubbles.Bubble.{Bubble}
use Rattle.vx_layout.specs.declared.pages.PagePlan.{PagePlan}
use Rattle.vx_layout.specs.Zones.{Apart}
use Rattle.vx_layout.specs.Printed.{print_of_page, KeepsClear, PrintedKeepClear}
use Rattle.vx_layout.specs.Pages.{IsOnGrid}
use Rattle.vx_geom.specs.declared.shear.Shear.{Shear}
use Rattle.vx_geom.specs.Slants.{Slant, slant_of, whole_of, down_by, right_by, scan_column, scan_row, paper_column, paper_row}
use Rattle.vx_geom.specs.Seen.{seen}
use Rattle.vx_grid.proofs.Papers.{last-row_low, height-is}
use Rattle.vx_grid.proofs.MarkPlaces.{mark-column, mark-row}
use Rattle.vx_margin.specs.Flips.{differ, flips, flips_in, flips_on}
use Rattle.vx_scan_model.specs.Ink.{added_to, bubble_at, HasInk}
use Rattle.vx_margin.specs.Laws.{TimingMarksAreMarks}
use Rattle.vx_scan_model.specs.Reading.{is_allowed}
use Rattle.vx_scan_model.proofs.Printed.{round-sides, place-columns, place-rows}
use Rattle.vx_scan_model.specs.Fits.{FitsUpright, sheared_print, KeepsInFrame, no_marks, ShearedPrintsFit, CleanPrintsFit}

nothing-added : (b : Bool) → (b && not b) ≡ false
nothing-added true = refl
nothing-added false = refl

no-difference : (b : Bool) → differ b b ≡ false
no-difference true = refl
no-difference false = refl

no-flip-by : (frame dark shown : Bool) → (frame ≡ true → dark ≡ shown) → (frame && differ dark shown) ≡ false
no-flip-by true dark shown same = ap (λ d. differ d shown) (same refl) ∙ no-difference shown
no-flip-by false dark shown same = refl

module _ (paper : Pixels) (shear : Shear) (width height : ℕ) where
  abbrev s : Slant
  s = slant_of shear

  abbrev scan : Page
  scan = sheared_print width height shear paper

  -- the sheared picture has no flip
  no-flip : (u v : ℤ) → flips s scan paper u v ≡ false
  unfolding flips
  no-flip u v =
      no-flip-by (rectangle (pos 0) (pos 0) width height u v) (dark_at scan u v) (seen s paper u v)
      (λ inside. let k = rectangle-sides (pos 0) (pos 0) width height u v inside in
      dark_at-in_frame width height (seen s paper) u v k.0 (omega (arith, ints, k.1)) k.2 (omega (arith, ints, k.3)))

  no-flips : (left top : ℤ) (w h : ℕ) (zone : Pixels) → count_in left top w h (flips_in s scan paper zone) ≡ 0
  no-flips left top w h zone =
      count_in-none left top w h (flips_in s scan paper zone) (λ u v a b c d. and-no (seen s zone u v) (flips s scan paper u v) (no-flip u v))

  no-laid : (left top : ℤ) (w h : ℕ) → count_in left top w h (flips_on s scan paper) ≡ 0
  no-laid left top w h = count_in-none left top w h (flips_on s scan paper) (λ x y a b c d. no-flip (scan_column s x y) (scan_row s x y))

-- nothing is added to a print by itself
no-ink : (print : Pixels) (left top : ℤ) (w h : ℕ) → count_in left top w h (added_to print print) ≡ 0
no-ink print left top w h = count_in-none left top w h (added_to print print) (λ x y a b c d. nothing-added (print x y))

apart-from : (print zone : Pixels) → Apart (added_to print print) zone
apart-from print zone = record { apart = λ x y added there. not-both (print x y && not (print x y)) added (nothing-added (print x y)) }

pub sheared-fits : ShearedPrintsFit
sheared-fits election printed plan shear width height valid planned keeps =
    let print : Pixels = print_of_page election plan printed in
    let none : (n : ℕ) → n < length plan.bubbles → slice_index_or (no_marks plan) n false ≡ false =
    λ n few. get_or-map (λ (bubble : Bubble). false) plan.bubbles n (record { contest = 0; option = 0; col = 0; row = 0 }) false few in
    record {
      planned = planned;
      shear = shear;
      paper = print;
      inked = record {
        printed = λ x y h. h;
        frame = apart-from print (frame_zone plan.paper);
        codes = apart-from print _;
        reserved = apart-from print _;
        all = length-map plan.bubbles (λ (bubble : Bubble). false);
        ink = λ n few.
            let bubble : Bubble = bubble_at plan n in
            let ink : HasInk false election.thresholds plan.paper bubble (added_to print print) =
            (let zero = no-ink print (pos (x_of bubble.col) -ℤ pos 36) (pos (y_of plan.paper bubble.row) -ℤ pos 25) 72 50 in omega (arith, zero, valid.thresholds.low)) in
            subst (λ (mark : Bool). HasInk mark election.thresholds plan.paper bubble (added_to print print)) (sym (none n few)) ink;
      };
      shows = record {
        allowed = keeps.allowed;
        slant_is = keeps.slant_is;
        marks = keeps.marks;
        few = λ p framed. omega (arith, no-flips print shear width height (p.u -ℤ pos 23) (p.v -ℤ pos 11) 46 22 (frame_zone plan.paper));
        bubbles = λ n few. record {
          in_frame = keeps.bubbles n few;
          few = omega (arith, no-laid print shear width height (pos (x_of (bubble_at plan n).col) -ℤ pos 36) (pos (y_of plan.paper (bubble_at plan n).row) -ℤ pos 25) 72 50);
        };
        boxes = λ n few. record {
          in_frame = keeps.boxes n few;
          few = omega (arith, no-laid print shear width height (pos (x_of (place_of_box plan.paper n).0) -ℤ pos 30) (pos (y_of plan.paper (place_of_box plan.paper n).1) -ℤ pos 22) 60 44);
        };
        reserved = λ n few. omega (arith, no-laid print shear width height (pos (x_of (reserved_place n).0) -ℤ pos 30) (pos (y_of plan.paper (reserved_place n).1) -ℤ pos 22) 60 44);
      };
      start = keeps.start;
    }

-- no shear at all
abbrev still : Shear
still = record { sx = pos 0; sy = pos 0; a = pos 0; b = pos 0 }

-- what is moved by no parts stays
no-parts : (z : ℤ) → whole_of ((pos 0 *ℤ z) +ℤ pos 0) ≡ pos 0
unfolding whole_of
no-parts z = ap (λ n. int_div_euclid (n +ℤ pos 0) (pos 4096)) (zero-*ℤ z)

still-down : (x : ℤ) → down_by (slant_of still) x ≡ pos 0
unfolding down_by
still-down x = ap (λ z. pos 0 +ℤ z) (no-parts x)

still-right : (v : ℤ) → right_by (slant_of still) v ≡ pos 0
unfolding right_by
still-right v = ap (λ z. pos 0 +ℤ z) (no-parts v)

still-row : (x y : ℤ) → scan_row (slant_of still) x y ≡ y
still-row x y = let down = still-down x in omega (arith, ints, down)

still-column : (x y : ℤ) → scan_column (slant_of still) x y ≡ x
still-column x y = let right = still-right (scan_row (slant_of still) x y) in omega (arith, ints, right)

still-seen : (set : Pixels) (u v : ℤ) → seen (slant_of still) set u v ≡ set u v
still-seen set u v =
    let column : paper_column (slant_of still) u v ≡ u = (let right = still-right v in omega (arith, ints, right)) in
    let row : paper_row (slant_of still) u v ≡ v = (let down = still-down (paper_column (slant_of still) u v) in omega (arith, ints, down)) in
    ap (λ z. set z (paper_row (slant_of still) u v)) column ∙ ap (λ z. set u z) row

first-rows : (paper : Paper) → (60 ≤ first_y paper) × (first_y paper ≤ 74)
first-rows Letter = (omega arith, omega arith)
first-rows Legal = (omega arith, omega arith)

still-allowed : (paper : Paper) → is_allowed paper (page_of page_width (page_height paper) nowhere) ≡ true
still-allowed Letter = refl
still-allowed Legal = refl

-- what stands within a page stays in its frame
in-page : (width height : ℕ) (x y : ℤ) → pos 0 ≤ℤ x → x <ℤ pos width → pos 0 ≤ℤ y → y <ℤ pos height → rectangle (pos 0) (pos 0) width height (scan_column (slant_of still) x y) (scan_row (slant_of still) x y) ≡ true
in-page width height x y a b c d =
    let column = still-column x y in
    let row = still-row x y in
    rectangle-inside (pos 0) (pos 0) width height (scan_column (slant_of still) x y) (scan_row (slant_of still) x y) (omega (arith, ints, column, a)) (omega (arith, ints, column, b)) (omega (arith, ints, row, c)) (omega (arith, ints, row, d))

module _ (are : TimingMarksAreMarks) (plan : PagePlan) (clear : KeepsClear plan) where
  still-keeps : ((paper : Paper) (k : ℕ) → k < marks_of paper → ((mark_of (last_row paper) k).0 ≤ 33) × ((mark_of (last_row paper) k).1 ≤ last_row paper)) → KeepsInFrame still plan page_width (page_height plan.paper)
  still-keeps points = record {
    slant_is = record {
      a = record { low = omega (arith, ints); high = omega (arith, ints) };
      b = record { low = omega (arith, ints); high = omega (arith, ints) };
      p = omega arith;
      q = omega arith;
    };
    allowed = still-allowed plan.paper;
    start =
        (let column = still-column (pos (x_of 0)) (pos (y_of plan.paper 0)) in
        let row = still-row (pos (x_of 0)) (pos (y_of plan.paper 0)) in
        let first = first-rows plan.paper in
        record {
          left = omega (arith, ints, column);
          right = omega (arith, ints, column);
          top = omega (arith, ints, row, first.0);
          bottom = omega (arith, ints, row, first.1);
        });
    marks = λ k few.
        let c : ℕ = (mark_of (last_row plan.paper) k).0 in
        let r : ℕ = (mark_of (last_row plan.paper) k).1 in
        let point = points plan.paper k few in
        let column = still-column (pos (x_of c)) (pos (y_of plan.paper r)) in
        let row = still-row (pos (x_of c)) (pos (y_of plan.paper r)) in
        let first = first-rows plan.paper in
        let height = height-is plan.paper in
        record {
          left = omega (arith, ints, column);
          right = omega (arith, ints, column, point.0);
          top = omega (arith, ints, row, first.0);
          bottom = omega (arith, ints, row, point.1, first.0, height);
        };
    bubbles = λ n few x y inside.
        let grid : IsOnGrid plan.paper (bubble_at plan n) = clear.on_grid n (record { contest = 0; option = 0; col = 0; row = 0 }) few in
        let sides = round-sides 36 25 (x_of (bubble_at plan n).col) (y_of plan.paper (bubble_at plan n).row) x y inside in
        let height = height-is plan.paper in
        let many = last-row_low plan.paper in
        let first = first-rows plan.paper in
        in-page page_width (page_height plan.paper) x y (omega (arith, ints, sides.0, grid.col)) (omega (arith, ints, sides.1, grid.col, grid.few)) (omega (arith, ints, sides.2, first.0)) (omega (arith, ints, sides.3, grid.high, height, many, first.0));
    boxes = λ n few x y inside.
        let sides = round-sides 30 22 (x_of (place_of_box plan.paper n).0) (y_of plan.paper (place_of_box plan.paper n).1) x y inside in
        let columns = place-columns (first_code_row plan.paper) n few in
        let rows = place-rows (first_code_row plan.paper) n few in
        let height = height-is plan.paper in
        let many = last-row_low plan.paper in
        let first = first-rows plan.paper in
        in-page page_width (page_height plan.paper) x y (omega (arith, ints, sides.0, columns.0)) (omega (arith, ints, sides.1, columns.1)) (omega (arith, ints, sides.2, first.0)) (omega (arith, ints, sides.3, rows.1, height, many, first.0));
  }

pub clean-fits : TimingMarksAreMarks → PrintedKeepClear → CleanPrintsFit
clean-fits are clear election printed plan valid planned =
    let print : Pixels = print_of_page election plan printed in
    let keeps =
    still-keeps are plan (clear election printed plan valid planned)
    (λ paper k few. (mark-column (last_row paper) k (last-row_low paper) few, mark-row (last_row paper) k (last-row_low paper) few)) in
    let same : sheared_print page_width (page_height plan.paper) still print ≡ page_of page_width (page_height plan.paper) print =
    page_of-same page_width (page_height plan.paper) (seen (slant_of still) print) print (λ x y a b. still-seen print (pos x) (pos y)) in
    subst (λ (page : Page). FitsUpright election page printed plan (no_marks plan)) same (sheared-fits election printed plan still page_width (page_height plan.paper) valid planned keeps)
