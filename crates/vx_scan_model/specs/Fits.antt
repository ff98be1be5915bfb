-- A scan that fits a printed page with its marks: the bounds within which it is read as that page. This project's
-- own bounds.
use Rattle.std.specs.Prelude.{◌≡◌, ◌⊎◌, ◌<◌, ◌≤◌, ℕ, ℤ, pos, List, map, length, Bool, true, false, Ok, Err}
use Rattle.vx_plane.specs.Plane.{Pixels, Page, page_of, nowhere, rectangle}
use Rattle.vx_grid.specs.declared.places.Point.{Point}
use Rattle.vx_grid.specs.declared.state.State.{State}
use Rattle.vx_grid.specs.declared.state.State.TheVariants.{Marked, Clear}
use Rattle.vx_grid.specs.Marks.{marks as marks_of}
use Rattle.vx_grid.specs.Regions.{frame_zone}
use Rattle.vx_grid.specs.Sizes as sizes
use Rattle.vx_grid.specs.Sizes.{zone_of, round}
use Rattle.vx_grid.specs.Grid.{x_of, y_of}
use Rattle.vx_count.specs.Turned.{turned_page, IsWhole}
use Rattle.vx_code.specs.Code.{place_of_box, reserved_place}
use Rattle.vx_election_model.specs.declared.election.Election.{Election}
use Rattle.vx_layout.specs.declared.bubbles.Bubble.{Bubble}
use Rattle.vx_layout.specs.declared.pages.PagePlan.{PagePlan}
use Rattle.vx_layout.specs.Printed.{PrintedPage, IsPlanned, code_of, print_of_page, bitmap_of}
use Rattle.vx_mark_model.specs.Mark.{IsInFrame, most_wrong}
use Rattle.vx_geom.specs.declared.shear.Shear.{Shear}
use Rattle.vx_geom.specs.Slants.{Slant, IsSlant, slant_of, scan_column, scan_row}
use Rattle.vx_geom.specs.Seen.{seen}
use Rattle.vx_margin.specs.Marks.{mark_image}
use Rattle.vx_margin.specs.Flips.{flips_in, flips_on}
use Rattle.vx_margin.specs.Shown.{count_at, count_round, IsInStartRegion, ShowsZone}
use Rattle.vx_scan_model.specs.declared.fault.PageFault.{PageFault}
use Rattle.vx_scan_model.specs.declared.reading.PageReading.{PageReading}
use Rattle.vx_election_model.specs.Valid.{IsValid}
use Rattle.vx_scan_model.specs.Reading.{is_allowed, upright_reading_of, reading_of}
use Rattle.vx_scan_model.specs.Ink.{IsInked, bubble_at}

-- the most flips in the zone of a bubble
abbrev pub bubble_flips : ℕ
bubble_flips = 12

-- the most flips in the zone of a code box, and in a reserved zone
abbrev pub code_flips : ℕ
code_flips = 120

-- a scan shows the paper of a planned page under a slant. The frame is allowed; the footprint at the image of each
-- mark's centre lies in it, and so do the images of the zones of bubbles and code boxes; and flips are few: 20 in
-- each footprint of the frame, so far as it shows the frame zone, 12 in the zone of a bubble, and 120 in that of a
-- code box and in each reserved zone
pub record ShowsPaper (s : Slant) (scan : Page) (plan : PagePlan) (paper : Pixels) : Type 0 where
  pub allowed : is_allowed plan.paper scan ≡ true
  pub slant_is : IsSlant s
  pub marks : (k : ℕ) → k < marks_of plan.paper → IsInFrame scan (mark_image s plan.paper k)
  pub few : (p : Point) → IsInFrame scan p → count_at p (flips_in s scan paper (frame_zone plan.paper)) ≤ most_wrong
  pub bubbles :
      (n : ℕ) → n < length plan.bubbles
      → ShowsZone s scan plan.paper paper (zone_of sizes.bubble)
      (bubble_at plan n).col (bubble_at plan n).row bubble_flips
  pub boxes :
      (n : ℕ) → n < 84
      → ShowsZone s scan plan.paper paper (zone_of sizes.code_box)
      (place_of_box plan.paper n).0 (place_of_box plan.paper n).1 code_flips
  pub reserved :
      (n : ℕ) → n < 84
      → count_round plan.paper (zone_of sizes.code_box)
      (reserved_place n).0 (reserved_place n).1 (flips_on s scan paper) ≤ code_flips

-- a scan fits a printed page with some of its bubbles marked, as it lies: it shows a paper with their ink under a
-- shear that takes the first mark to where a page may begin
pub record FitsUpright (election : Election) (scan : Page) (printed : PrintedPage) (plan : PagePlan) (marks : List Bool) : Type 0 where
  pub planned : IsPlanned election printed plan
  pub shear : Shear
  pub paper : Pixels
  pub inked : IsInked election.thresholds plan (print_of_page election plan printed) marks paper
  pub shows : ShowsPaper (slant_of shear) scan plan paper
  pub start : IsInStartRegion (mark_image (slant_of shear) plan.paper 0)

-- as it lies, or turned by 180 degrees
abbrev pub Fits : Election → Page → PrintedPage → PagePlan → List Bool → Type 0
Fits election scan printed plan marks =
    FitsUpright election scan printed plan marks ⊎ FitsUpright election (turned_page scan) printed plan marks

-- what a bubble is to be read as
abbrev pub state_of_mark : Bool → State
state_of_mark true = Marked
state_of_mark false = Clear

-- a reading is of the printed page, its marked bubbles Marked and all others Clear
pub record Says (election : Election) (printed : PrintedPage) (marks : List Bool) (reading : PageReading) : Type 0 where
  pub code_is : reading.code ≡ code_of election printed
  pub states_are : reading.states ≡ map state_of_mark marks

-- a scan is read as that page
pub record IsReadAs (election : Election) (scan : Page) (printed : PrintedPage) (marks : List Bool) : Type 0 where
  pub reading : PageReading
  pub is_read : reading_of election scan ≡ Ok reading
  pub says : Says election printed marks reading

-- a scan is read as that page as it lies
pub record IsReadUpright (election : Election) (scan : Page) (printed : PrintedPage) (marks : List Bool) : Type 0 where
  pub reading : PageReading
  pub is_read : upright_reading_of election scan ≡ Ok reading
  pub says : Says election printed marks reading

-- every scan that fits as it lies is read so
abbrev pub UprightScansAreRead : Type 0
UprightScansAreRead =
    (election : Election) (scan : Page) (printed : PrintedPage) (plan : PagePlan) (marks : List Bool) → IsValid election
    → FitsUpright election scan printed plan marks → IsReadUpright election scan printed marks

-- a scan that fits a printed page with some marks when it is turned by 180 degrees has a fault as it lies
abbrev pub TurnedPagesAreNone : Type 0
TurnedPagesAreNone =
    (election : Election) (scan : Page) (printed : PrintedPage) (plan : PagePlan) (marks : List Bool) → IsValid election
    → IsWhole scan → FitsUpright election (turned_page scan) printed plan marks
    → (fault : PageFault) × (upright_reading_of election scan ≡ Err fault)

-- every scan that fits a printed page with its marks, as it lies or turned, is read as that page with those marks
abbrev pub FittingScansAreRead : Type 0
FittingScansAreRead =
    (election : Election) (scan : Page) (printed : PrintedPage) (plan : PagePlan) (marks : List Bool) → IsValid election
    → IsWhole scan → Fits election scan printed plan marks → IsReadAs election scan printed marks

-- so a scan fits at most one printed page, with one set of marks
abbrev pub FitsOnePage : Type 0
FitsOnePage =
    (election : Election) (scan : Page) (printed other : PrintedPage) (plan other_plan : PagePlan) (marks other_marks : List Bool)
    → IsValid election → IsWhole scan → Fits election scan printed plan marks → Fits election scan other other_plan other_marks
    → (printed ≡ other) × (marks ≡ other_marks)

-- the scan of a frame that shows the paper under a shear without a flip
abbrev pub sheared_print : ℕ → ℕ → Shear → Pixels → Page
sheared_print width height shear paper = page_of width height (seen (slant_of shear) paper)

-- a shear keeps a planned page in a frame
pub record KeepsInFrame (shear : Shear) (plan : PagePlan) (width height : ℕ) : Type 0 where
  pub slant_is : IsSlant (slant_of shear)
  pub allowed : is_allowed plan.paper (page_of width height nowhere) ≡ true
  pub start : IsInStartRegion (mark_image (slant_of shear) plan.paper 0)
  pub marks :
      (k : ℕ) → k < marks_of plan.paper
      → IsInFrame (page_of width height nowhere) (mark_image (slant_of shear) plan.paper k)
  pub bubbles :
      (n : ℕ) → n < length plan.bubbles → (x y : ℤ)
      → round (zone_of sizes.bubble) (x_of (bubble_at plan n).col) (y_of plan.paper (bubble_at plan n).row) x y ≡ true
      → rectangle (pos 0) (pos 0) width height (scan_column (slant_of shear) x y) (scan_row (slant_of shear) x y) ≡ true
  pub boxes :
      (n : ℕ) → n < 84 → (x y : ℤ)
      → round (zone_of sizes.code_box) (x_of (place_of_box plan.paper n).0) (y_of plan.paper (place_of_box plan.paper n).1) x y ≡ true
      → rectangle (pos 0) (pos 0) width height (scan_column (slant_of shear) x y) (scan_row (slant_of shear) x y) ≡ true

-- no bubble of a page is marked
abbrev pub no_marks : PagePlan → List Bool
no_marks plan = map (λ (bubble : Bubble). false) plan.bubbles

-- the clean print of a planned page, sheared so that it stays in the frame, fits that page with no bubble marked
abbrev pub ShearedPrintsFit : Type 0
ShearedPrintsFit =
    (election : Election) (printed : PrintedPage) (plan : PagePlan) (shear : Shear) (width height : ℕ) → IsValid election
    → IsPlanned election printed plan → KeepsInFrame shear plan width height
    → FitsUpright election (sheared_print width height shear (print_of_page election plan printed)) printed plan (no_marks plan)

-- as it is, it fits that page too
abbrev pub CleanPrintsFit : Type 0
CleanPrintsFit =
    (election : Election) (printed : PrintedPage) (plan : PagePlan) → IsValid election → IsPlanned election printed plan
    → FitsUpright election (bitmap_of election plan printed) printed plan (no_marks plan)
