-- Grayscale scans that fit printed pages with their marks: their bits fit them.
use Rattle.std.specs.Prelude.{◌≡◌, ◌⊎◌, ◌<◌, ◌≤◌, ℕ, ◌-◌, ◌*◌, ◌/◌, ℤ, List, length, Bool, true}
use Rattle.vx_plane.specs.Plane.{Pixels, Page, page_of}
use Rattle.vx_grid.specs.Paper.{page_width, page_height}
use Rattle.vx_count.specs.Turned.{IsWhole}
use Rattle.vx_election_model.specs.declared.election.Election.{Election}
use Rattle.vx_election_model.specs.Valid.{IsValid}
use Rattle.vx_layout.specs.declared.pages.PagePlan.{PagePlan}
use Rattle.vx_layout.specs.Printed.{PrintedPage, IsPlanned, print_of_page, bitmap_of}
use Rattle.vx_layout.specs.Zones.{bubble_zone_of}
use Rattle.vx_scan_model.specs.Fits.{Fits, no_marks}
use Rattle.vx_scan_model.specs.Ink.{bubble_at}
use Rattle.vx_gray.specs.Gray.{Gray, bits_of}
use Rattle.vx_gray.specs.Light.{Shows, shown, FallsSlowly, HasLightNear}

-- a grayscale scan fits a printed page with some of its bubbles marked: it shows a scan that does
pub record FitsGray (election : Election) (gray : Gray) (printed : PrintedPage) (plan : PagePlan) (marks : List Bool) : Type 0 where
  pub scan : Page
  pub whole : IsWhole scan
  pub shows : Shows gray scan
  pub fits : Fits election scan printed plan marks

-- the bits of a grayscale page are the scan that it shows
abbrev pub BitsAreWhatIsShown : Type 0
BitsAreWhatIsShown = (gray : Gray) (scan : Page) → IsWhole scan → Shows gray scan → bits_of gray ≡ scan

-- so where a grayscale scan fits a printed page with some marks, its bits fit that page with those marks
abbrev pub BitsFit : Type 0
BitsFit =
    (election : Election) (gray : Gray) (printed : PrintedPage) (plan : PagePlan) (marks : List Bool)
    → FitsGray election gray printed plan marks → Fits election (bits_of gray) printed plan marks

-- a scan with a light place near each tile is shown where the light falls slowly
abbrev pub SlowLightShows : Type 0
SlowLightShows =
    (scan : Page) (paper ink : ℕ → ℕ → ℕ) → IsWhole scan → HasLightNear scan
    → FallsSlowly scan.width scan.height paper ink → Shows (shown scan paper ink) scan

-- so is one in two levels, its ink less than half as light as its paper
abbrev pub TwoLevelsShow : Type 0
TwoLevelsShow =
    (scan : Page) (paper ink : ℕ) → IsWhole scan → HasLightNear scan → 1 ≤ paper → paper ≤ 255 → 2 * ink < paper
    → Shows (shown scan (λ u v. paper) (λ u v. ink)) scan

-- so a scan that fits a printed page with some marks, and has a light place near each tile, fits that page with those
-- marks as it is shown, where the light falls slowly
abbrev pub ShownScansFit : Type 0
ShownScansFit =
    (election : Election) (scan : Page) (printed : PrintedPage) (plan : PagePlan) (marks : List Bool)
    (paper ink : ℕ → ℕ → ℕ) → IsWhole scan → Fits election scan printed plan marks → HasLightNear scan
    → FallsSlowly scan.width scan.height paper ink → FitsGray election (shown scan paper ink) printed plan marks

-- a paper with the print of a page, and ink in the zones of its bubbles alone
pub record HasInkInBubbles (plan : PagePlan) (print paper : Pixels) : Type 0 where
  pub only :
      (x y : ℤ) → paper x y ≡ true
      → (print x y ≡ true)
      ⊎ ((n : ℕ) × (n < length plan.bubbles) × (bubble_zone_of plan.paper (bubble_at plan n) x y ≡ true))

-- the page of such a paper, as it is
abbrev pub marked_page : PagePlan → Pixels → Page
marked_page plan paper = page_of page_width (page_height plan.paper) paper

-- near each tile of a printed page a place is light, also where its bubbles are marked
abbrev pub MarkedPrintsHaveLight : Type 0
MarkedPrintsHaveLight =
    (election : Election) (printed : PrintedPage) (plan : PagePlan) (marked : Pixels) → IsPlanned election printed plan
    → HasInkInBubbles plan (print_of_page election plan printed) marked → HasLightNear (marked_page plan marked)

-- so a printed page whose bubbles were marked, and which fits with these marks, fits so as it is shown, where the light
-- falls slowly
abbrev pub MarkedPrintsFit : Type 0
MarkedPrintsFit =
    (election : Election) (printed : PrintedPage) (plan : PagePlan) (marks : List Bool) (marked : Pixels)
    (paper ink : ℕ → ℕ → ℕ) → IsPlanned election printed plan
    → HasInkInBubbles plan (print_of_page election plan printed) marked
    → Fits election (marked_page plan marked) printed plan marks
    → FallsSlowly page_width (page_height plan.paper) paper ink
    → FitsGray election (shown (marked_page plan marked) paper ink) printed plan marks

-- near each tile of a printed page a place is light
abbrev pub PrintsHaveLight : Type 0
PrintsHaveLight =
    (election : Election) (printed : PrintedPage) (plan : PagePlan) → IsPlanned election printed plan
    → HasLightNear (bitmap_of election plan printed)

-- so the clean print of each planned page fits that page with no bubble marked, where the light falls slowly
abbrev pub ShownPrintsFit : Type 0
ShownPrintsFit =
    (election : Election) (printed : PrintedPage) (plan : PagePlan) (paper ink : ℕ → ℕ → ℕ) → IsValid election
    → IsPlanned election printed plan
    → FallsSlowly (bitmap_of election plan printed).width (bitmap_of election plan printed).height paper ink
    → FitsGray election (shown (bitmap_of election plan printed) paper ink) printed plan (no_marks plan)

-- so it does in two levels, its ink less than half as light as its paper
abbrev pub TwoLevelPrintsFit : Type 0
TwoLevelPrintsFit =
    (election : Election) (printed : PrintedPage) (plan : PagePlan) (paper ink : ℕ) → IsValid election
    → IsPlanned election printed plan → 1 ≤ paper → paper ≤ 255 → 2 * ink < paper
    → FitsGray election (shown (bitmap_of election plan printed) (λ u v. paper) (λ u v. ink)) printed plan (no_marks plan)

-- the light of a column of a printed page that is bright at its left edge and falls evenly to its right one
abbrev pub falling : ℕ → ℕ → ℕ → ℕ → ℕ
falling bright fall u v = bright - fall * u / page_width

-- so it does where the light falls from the left edge to the right one by three parts in four at most, and the ink is a
-- quarter as light as the paper
abbrev pub FallingLightPrintsFit : Type 0
FallingLightPrintsFit =
    (election : Election) (printed : PrintedPage) (plan : PagePlan) (bright fall : ℕ) → IsValid election
    → IsPlanned election printed plan → 8 ≤ bright → bright ≤ 255 → 4 * fall ≤ 3 * bright
    → FitsGray election
    (shown (bitmap_of election plan printed) (falling bright fall) (λ u v. falling bright fall u v / 4))
    printed plan (no_marks plan)
