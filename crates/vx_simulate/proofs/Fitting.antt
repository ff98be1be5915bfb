-- A simulated scan of a printed page fits that page.
use Rattle.std.proofs.Common.{◌≡◌, ℕ, ◌+◌, ◌≤◌, ◌<◌, Bool, true, List, length, ℤ, pos, ◌-ℤ◌, ◌≤ℤ◌, refl, arith}
use Rattle.std.proofs.lemmas.Int.{ints}
use Rattle.std.proofs.lemmas.List.{length-map}
use Rattle.rand_pcg.specs.Lcg.{Lcg}
use Rattle.vx_plane.specs.Plane.{Pixels, Page, page_of, rectangle}
use Rattle.vx_plane.proofs.Pages.{rectangle-inside, rectangle-sides}
use Rattle.vx_grid.specs.declared.paper.Paper.{Paper}
use Rattle.vx_grid.specs.declared.paper.Paper.TheVariants.{Letter, Legal}
use Rattle.vx_grid.specs.Paper.{last_row, first_y}
use Rattle.vx_grid.specs.Places.{IsWithin}
use Rattle.vx_grid.specs.Marks.{mark_of}
use Rattle.vx_grid.specs.Grid.{x_of, y_of, first_code_row, first_reserved_row}
use Rattle.vx_code.specs.Code.{place_from, reserved_place}
use Rattle.vx_layout.specs.declared.pages.PagePlan.{PagePlan}
use Rattle.vx_layout.specs.Pages.{IsOnGrid}
use Rattle.vx_layout.specs.Printed.{print_of_page, KeepsClear, PrintedKeepClear}
use Rattle.vx_geom.specs.Slants.{Slant, slant_of, scan_column, scan_row}
use Rattle.vx_margin.specs.Shown.{IsInStartRegion}
use Rattle.vx_margin.specs.Marks.{mark_image}
use Rattle.vx_margin.specs.Flips.{differ}
use Rattle.vx_scan_model.specs.Reading.{is_allowed}
use Rattle.vx_scan_model.specs.Ink.{bubble_at, BubblesAreOutlined}
use Rattle.vx_scan_model.specs.Fits.{ShowsPaper}
use Rattle.vx_simulate.specs.Draws.{draw}
use Rattle.vx_simulate.specs.Marks.{draw_marks, marks_of, is_marked}
use Rattle.vx_simulate.specs.Lie.{frame_width, frame_height, shear_to, start_column, start_columns}
use Rattle.vx_simulate.specs.Flips.{draw_flips, drawn_flips}
use Rattle.vx_geom.specs.Seen.{seen}
use Rattle.vx_grid.proofs.MarkPlaces.{mark-column, mark-row}
use Rattle.vx_simulate.specs.Ink.{draw_inks, inked}
use Rattle.vx_simulate.specs.Simulated.{draw_page, SimulatedScansFit}
use Rattle.vx_simulate.proofs.Drawn.{draw-below}
use Rattle.vx_simulate.proofs.Lying.{IsFramed, IsWellInside, slant-is, first-row, first-column, well-inside}
use Rattle.vx_simulate.proofs.Inking.{no_bubble, is-inked}
use Rattle.vx_simulate.proofs.Flipping.{few-framed, few-at_bubble, few-at_box, few-reserved}

-- how many columns there are for the first mark
start-columns_high : (paper : Paper) → start_column paper + start_columns paper ≤ 113
start-columns_high Letter = omega arith
start-columns_high Legal = omega arith

start-columns_some : (paper : Paper) → 0 < start_columns paper
start-columns_some Letter = omega arith
start-columns_some Legal = omega arith

start-column_low : (paper : Paper) → 60 ≤ start_column paper
start-column_low Letter = omega arith
start-column_low Legal = omega arith

frame-allowed : (paper : Paper) (set : Pixels) → is_allowed paper (page_of frame_width (frame_height paper) set) ≡ true
frame-allowed Letter set = refl
frame-allowed Legal set = refl

rows-between : (paper : Paper) → (40 ≤ last_row paper) × (60 ≤ first_y paper)
rows-between Letter = (omega arith, omega arith)
rows-between Legal = (omega arith, omega arith)

slope : (n : ℕ) → n < 129 → IsWithin 64 (pos n -ℤ pos 64)
slope n few = record { low = omega (arith, ints, few); high = omega (arith, ints, few) }

-- a page whose first mark comes to lie at a column and a row, under two slopes
module _ (plan : PagePlan) (keeps : KeepsClear plan) (a b u v : ℤ) (rows : IsWithin 64 a) (columns : IsWithin 64 b)
    (from : pos (start_column plan.paper) ≤ℤ u) (to : u ≤ℤ pos 112) (above : pos 40 ≤ℤ v) (below : v ≤ℤ pos 100) where
  abbrev s : Slant
  s = slant_of (shear_to plan.paper a b u v)

  inside : (x y : ℤ) → IsFramed plan.paper x y → IsWellInside plan.paper (scan_column s x y) (scan_row s x y)
  inside x y framed = well-inside plan.paper a b u v rows columns x y framed from to above below

  in-frame : (x y : ℤ) → IsFramed plan.paper x y → rectangle (pos 0) (pos 0) frame_width (frame_height plan.paper) (scan_column s x y) (scan_row s x y) ≡ true
  in-frame x y framed =
      let at = inside x y framed in
      rectangle-inside (pos 0) (pos 0) frame_width (frame_height plan.paper) (scan_column s x y) (scan_row s x y)
      (omega (arith, ints, at.left)) (omega (arith, ints, at.right)) (omega (arith, ints, at.top)) (omega (arith, ints, at.bottom))

  starts : IsInStartRegion (mark_image s plan.paper 0)
  starts =
      let row : scan_row s (pos 58) (pos (y_of plan.paper 0)) ≡ v = first-row plan.paper a b u v rows columns (pos (y_of plan.paper 0)) (omega (arith, ints)) in
      let column : scan_column s (pos 58) (pos (y_of plan.paper 0)) ≡ u = first-column plan.paper a b u v rows columns (pos (y_of plan.paper 0)) (omega (arith, ints)) in
      let low = start-column_low plan.paper in
      record {
        left = omega (arith, ints, column, from, low);
        right = omega (arith, ints, column, to);
        top = omega (arith, ints, row, above);
        bottom = omega (arith, ints, row, below);
      }

  bubble-framed : (n : ℕ) → n < length plan.bubbles → (x y : ℤ)
      → rectangle (pos (x_of (bubble_at plan n).col) -ℤ pos 36) (pos (y_of plan.paper (bubble_at plan n).row) -ℤ pos 25) 72 50 x y ≡ true → IsFramed plan.paper x y
  bubble-framed n few x y h =
      let grid : IsOnGrid plan.paper (bubble_at plan n) = keeps.on_grid n no_bubble few in
      let sides = rectangle-sides (pos (x_of (bubble_at plan n).col) -ℤ pos 36) (pos (y_of plan.paper (bubble_at plan n).row) -ℤ pos 25) 72 50 x y h in
      let many = rows-between plan.paper in
      record {
        left = omega (arith, ints, sides.0, grid.col);
        right = omega (arith, ints, sides.1, grid.col, grid.few);
        top = omega (arith, ints, sides.2, grid.low);
        bottom = omega (arith, ints, sides.3, grid.high, many.0);
      }

  box-framed : (first n : ℕ) → n < 84 → 1 ≤ first → first + 3 ≤ last_row plan.paper → (x y : ℤ)
      → rectangle (pos (x_of (place_from first n).0) -ℤ pos 30) (pos (y_of plan.paper (place_from first n).1) -ℤ pos 22) 60 44 x y ≡ true → IsFramed plan.paper x y
  box-framed first n few low high x y h =
      let sides = rectangle-sides (pos (x_of (place_from first n).0) -ℤ pos 30) (pos (y_of plan.paper (place_from first n).1) -ℤ pos 22) 60 44 x y h in
      record {
        left = omega (arith, ints, sides.0);
        right = omega (arith, ints, sides.1, few);
        top = omega (arith, ints, sides.2, low);
        bottom = omega (arith, ints, sides.3, few, high);
      }

  -- the corner of a reserved zone lies there too
  reserved-corner : (n : ℕ) → n < 84 → IsFramed plan.paper (pos (x_of (reserved_place n).0) -ℤ pos 30) (pos (y_of plan.paper (reserved_place n).1) -ℤ pos 22)
  reserved-corner n few =
      let many = rows-between plan.paper in
      box-framed first_reserved_row n few (omega arith) (omega (arith, many.0)) _ _
      (rectangle-inside (pos (x_of (reserved_place n).0) -ℤ pos 30) (pos (y_of plan.paper (reserved_place n).1) -ℤ pos 22) 60 44 (pos (x_of (reserved_place n).0) -ℤ pos 30) (pos (y_of plan.paper (reserved_place n).1) -ℤ pos 22)
      (omega (arith, ints)) (omega (arith, ints)) (omega (arith, ints)) (omega (arith, ints)))

  module _ (paper : Pixels) (g : Lcg) where
    abbrev scan : Page
    scan = page_of frame_width (frame_height plan.paper) (λ p q. differ (drawn_flips s plan (draw_flips plan g).0 p q) (seen s paper p q))

    shows : ShowsPaper s scan plan paper
    shows =
        let slant = slant-is plan.paper a b u v rows columns in
        let many = rows-between plan.paper in
        record {
          allowed = frame-allowed plan.paper (λ p q. differ (drawn_flips s plan (draw_flips plan g).0 p q) (seen s paper p q));
          slant_is = slant;
          marks = λ k few.
              let c : ℕ = (mark_of (last_row plan.paper) k).0 in
              let r : ℕ = (mark_of (last_row plan.paper) k).1 in
              let column : c ≤ 33 = mark-column (last_row plan.paper) k many.0 few in
              let row : r ≤ last_row plan.paper = mark-row (last_row plan.paper) k many.0 few in
              let at = inside (pos (x_of c)) (pos (y_of plan.paper r)) (record {
                left = omega (arith, ints);
                right = omega (arith, ints, column);
                top = omega (arith, ints);
                bottom = omega (arith, ints, row);
              }) in
              record {
                left = omega (arith, ints, at.left);
                right = omega (arith, ints, at.right);
                top = omega (arith, ints, at.top);
                bottom = omega (arith, ints, at.bottom);
              };
          few = λ p framed. few-framed plan keeps s slant paper g p framed;
          bubbles = λ n few. record {
            in_frame = λ x y h. in-frame x y (bubble-framed n few x y h);
            few = few-at_bubble plan keeps s slant paper g n few;
          };
          boxes = λ n few. record {
            in_frame = λ x y h. in-frame x y (box-framed (first_code_row plan.paper) n few (omega (arith, many.0)) (omega (arith, many.0)) x y h);
            few = few-at_box plan keeps s slant paper g n few;
          };
          reserved = λ n few.
              let at = inside (pos (x_of (reserved_place n).0) -ℤ pos 30) (pos (y_of plan.paper (reserved_place n).1) -ℤ pos 22) (reserved-corner n few) in
              few-reserved plan keeps s slant paper g n few (omega (arith, ints, at.left)) (omega (arith, ints, at.top));
        }

pub simulated-fit : BubblesAreOutlined → PrintedKeepClear → SimulatedScansFit
unfolding draw_page
simulated-fit outlined clear election printed plan g valid planned =
    let keeps : KeepsClear plan = clear election printed plan valid planned in
    let print : Pixels = print_of_page election plan printed in
    let drawn = draw_marks election plan g in
    let marks : List Bool = marks_of drawn.0 plan in
    let d1 : Lcg = drawn.1 in
    let d2 : Lcg = (draw 129 d1).1 in
    let d3 : Lcg = (draw 129 d2).1 in
    let d4 : Lcg = (draw (start_columns plan.paper) d3).1 in
    let a : ℤ = pos (draw 129 d1).0 -ℤ pos 64 in
    let b : ℤ = pos (draw 129 d2).0 -ℤ pos 64 in
    let u : ℤ = pos (start_column plan.paper + (draw (start_columns plan.paper) d3).0) in
    let v : ℤ = pos (40 + (draw 61 d4).0) in
    let d5 : Lcg = (draw 61 d4).1 in
    let inks = draw_inks election.thresholds marks d5 in
    let all : length marks ≡ length plan.bubbles = length-map plan.bubbles (is_marked drawn.0) in
    let rows : IsWithin 64 a = slope (draw 129 d1).0 (draw-below 129 d1 (omega arith)) in
    let columns : IsWithin 64 b = slope (draw 129 d2).0 (draw-below 129 d2 (omega arith)) in
    let few : (draw (start_columns plan.paper) d3).0 < start_columns plan.paper = draw-below (start_columns plan.paper) d3 (start-columns_some plan.paper) in
    let low : (draw 61 d4).0 < 61 = draw-below 61 d4 (omega arith) in
    let room = start-columns_high plan.paper in
    let from : pos (start_column plan.paper) ≤ℤ u = omega (arith, ints) in
    let to : u ≤ℤ pos 112 = omega (arith, ints, few, room) in
    let above : pos 40 ≤ℤ v = omega (arith, ints) in
    let below : v ≤ℤ pos 100 = omega (arith, ints, low) in
    record {
      planned = planned;
      shear = shear_to plan.paper a b u v;
      paper = inked plan inks.0 print;
      inked = is-inked plan keeps print (outlined election printed plan valid planned) election.thresholds valid.thresholds marks d5 all;
      shows = shows plan keeps a b u v rows columns from to above below (inked plan inks.0 print) inks.1;
      start = starts plan keeps a b u v rows columns from to above below;
    }
