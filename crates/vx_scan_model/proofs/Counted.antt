-- What the windows of a scan that shows a printed page count.
use Rattle.std.proofs.Common.{◌≡◌, ℕ, ◌<◌, Bool, true, false, List, length, subst, arith}
use Rattle.std.specs.Prelude.{slice_index_or}
use Rattle.vx_plane.specs.Plane.{Pixels, Page}
use Rattle.vx_grid.specs.declared.places.Point.{Point}
use Rattle.vx_grid.specs.Grid.{first_code_row}
use Rattle.vx_grid.specs.Marks.{marks as marks_of}
use Rattle.vx_grid.specs.Borders.{MarkPlaces}
use Rattle.vx_grid.specs.Sizes as sizes
use Rattle.vx_grid.specs.Sizes.{zone_of}
use Rattle.vx_grid.proofs.Papers.{last-row_low}
use Rattle.vx_fit.specs.Fit.{place_of}
use Rattle.vx_code.specs.Code.{place_of_box, boxes_of}
use Rattle.vx_election_model.specs.declared.election.Election.{Election}
use Rattle.vx_election_model.specs.Valid.{IsValid}
use Rattle.vx_layout.specs.declared.pages.PagePlan.{PagePlan}
use Rattle.vx_layout.specs.Pages.{IsOnGrid}
use Rattle.vx_layout.specs.Printed.{PrintedPage, IsPlanned, code_of, print_of_page, KeepsClear}
use Rattle.vx_geom.specs.Slants.{Slant}
use Rattle.vx_margin.specs.Marks.{image_of, LiesNear}
use Rattle.vx_margin.specs.Shown.{count_round}
use Rattle.vx_margin.specs.Chains.{LieAtMarks}
use Rattle.vx_margin.specs.Laws.{HoldsWindow}
use Rattle.vx_scan_model.specs.Ink.{IsInked, added_to, bubble_at, HasInk}
use Rattle.vx_scan_model.specs.Fits.{bubble_flips, code_flips, ShowsPaper}
use Rattle.vx_scan_model.specs.Counted.{CountsTell, ShownPagesAreCounted}
use Rattle.vx_scan_model.specs.Laws.{AreLaws}
use Rattle.vx_scan_model.proofs.Printed.{place-columns, place-rows}
use Rattle.vx_scan_model.proofs.Inks.{zone-ink, box-ink, box-full, box-empty}

module _ (laws : AreLaws) (election : Election) (scan : Page) (printed : PrintedPage) (plan : PagePlan) (marks : List Bool) (s : Slant) (paper : Pixels) (places : List Point)
    (valid : IsValid election) (planned : IsPlanned election printed plan) (inked : IsInked election.thresholds plan (print_of_page election plan printed) marks paper)
    (shows : ShowsPaper s scan plan paper) (near : LieAtMarks s plan.paper (marks_of plan.paper) places) where
  abbrev border : MarkPlaces
  border = record { paper = plan.paper; places = places }

  abbrev boxes : List Bool
  boxes = boxes_of (code_of election printed)

  keeps : KeepsClear plan
  keeps = laws.clear election printed plan valid planned

  -- the windows of the page code hold their boxes
  box-window : (n : ℕ) → n < 84 → HoldsWindow scan plan.paper paper sizes.code_box (place_of_box plan.paper n).0 (place_of_box plan.paper n).1 code_flips
      (place_of border (place_of_box plan.paper n).0 (place_of_box plan.paper n).1)
  box-window n few =
      let columns = place-columns (first_code_row plan.paper) n few in
      let rows = place-rows (first_code_row plan.paper) n few in
      let c : ℕ = (place_of_box plan.paper n).0 in
      let r : ℕ = (place_of_box plan.paper n).1 in
      let close : LiesNear 6 4 (place_of border c r) (image_of s plan.paper c r) =
      laws.places s border c r shows.slant_is near (omega (arith, columns.1)) (omega (arith, rows.1, last-row_low plan.paper)) in
      laws.windows s scan plan.paper paper sizes.code_box c r code_flips (place_of border c r) shows.slant_is (omega arith) (omega arith) (shows.boxes n few) close

  -- the window of a bubble holds its box
  bubble-window : (n : ℕ) → n < length plan.bubbles → HoldsWindow scan plan.paper paper sizes.bubble (bubble_at plan n).col (bubble_at plan n).row bubble_flips
      (place_of border (bubble_at plan n).col (bubble_at plan n).row)
  bubble-window n few =
      let c : ℕ = (bubble_at plan n).col in
      let r : ℕ = (bubble_at plan n).row in
      let grid : IsOnGrid plan.paper (bubble_at plan n) = keeps.on_grid n (record { contest = 0; option = 0; col = 0; row = 0 }) few in
      let close : LiesNear 6 4 (place_of border c r) (image_of s plan.paper c r) =
      laws.places s border c r shows.slant_is near (omega (arith, grid.col, grid.few)) (omega (arith, grid.high, last-row_low plan.paper)) in
      laws.windows s scan plan.paper paper sizes.bubble c r bubble_flips (place_of border c r) shows.slant_is (omega arith) (omega arith) (shows.bubbles n few) close

  -- the ink that a bubble has by its mark
  ink-of : (n : ℕ) → n < length plan.bubbles → (mark : Bool) → slice_index_or marks n false ≡ mark
      → HasInk mark election.thresholds plan.paper (bubble_at plan n) (added_to (print_of_page election plan printed) paper)
  ink-of n few mark is =
      subst (λ (m : Bool). HasInk m election.thresholds plan.paper (bubble_at plan n) (added_to (print_of_page election plan printed) paper)) is (inked.ink n few)

  counts-tell : CountsTell election scan border plan boxes marks
  counts-tell = record {
    printed = λ n few is.
        let full : count_round plan.paper sizes.code_box (place_of_box plan.paper n).0 (place_of_box plan.paper n).1 paper ≡ 560 =
        box-full laws.marks_are plan keeps boxes paper inked.printed n few is in
        omega (arith, full, (box-window n few).at_least);
    blank = λ n few is.
        let empty : count_round plan.paper (zone_of sizes.code_box) (place_of_box plan.paper n).0 (place_of_box plan.paper n).1 paper ≡ 0 =
        box-empty laws.marks_are plan keeps boxes paper inked.printed n few inked.codes is in
        omega (arith, empty, (box-window n few).at_most);
    marked = λ n few is.
        let own = box-ink laws.marks_are plan keeps boxes paper inked.printed n few in
        let ink : HasInk true election.thresholds plan.paper (bubble_at plan n) (added_to (print_of_page election plan printed) paper) = ink-of n few true is in
        omega (arith, own, ink, (bubble-window n few).at_least);
    clear = λ n few is.
        let own = zone-ink laws.marks_are plan keeps boxes paper inked.printed n few in
        let ink : HasInk false election.thresholds plan.paper (bubble_at plan n) (added_to (print_of_page election plan printed) paper) = ink-of n few false is in
        omega (arith, own, ink, (bubble-window n few).at_most);
  }

pub shown-counted : AreLaws → ShownPagesAreCounted
shown-counted = counts-tell
