-- A simulated scan of a printed page. This project's own rule.
use Rattle.std.specs.Prelude.{◌≡◌}
use Rattle.rand_pcg.specs.Lcg.{Lcg}
use Rattle.vx_plane.specs.Plane.{Pixels, Page, page_of}
use Rattle.vx_election_model.specs.declared.election.Election.{Election}
use Rattle.vx_election_model.specs.Valid.{IsValid}
use Rattle.vx_layout.specs.declared.pages.PagePlan.{PagePlan}
use Rattle.vx_layout.specs.Printed.{PrintedPage, IsPlanned, print_of_page, bitmap_of}
use Rattle.vx_geom.specs.Slants.{slant_of}
use Rattle.vx_geom.specs.Seen.{seen}
use Rattle.vx_margin.specs.Flips.{differ}
use Rattle.vx_scan_model.specs.Fits.{FitsUpright}
use Rattle.vx_simulate.specs.declared.simulation.Simulation.{Simulation}
use Rattle.vx_simulate.specs.Marks.{draw_marks, marks_of}
use Rattle.vx_simulate.specs.Lie.{frame_width, frame_height, draw_shear}
use Rattle.vx_simulate.specs.Ink.{draw_inks, inked}
use Rattle.vx_simulate.specs.Flips.{draw_flips, drawn_flips}

-- all that is drawn of a page, in this order: marks, shear, ink, flips
unfoldable pub draw_page : Election → PagePlan → Lcg → Simulation × Lcg
draw_page election plan g =
    let drawn = draw_marks election plan g in
    let marks = marks_of drawn.0 plan in
    let shear = draw_shear plan.paper drawn.1 in
    let inks = draw_inks election.thresholds marks shear.1 in
    let flips = draw_flips plan inks.1 in
    (record { marks = marks; shear = shear.0; inks = inks.0; flips = flips.0 }, flips.1)

-- the scan: what it shows of the paper with its ink, with the flips changed
abbrev pub scan_of : PagePlan → Pixels → Simulation → Page
scan_of plan print it =
    let s = slant_of it.shear in
    page_of frame_width (frame_height plan.paper)
    (λ u v. differ (drawn_flips s plan it.flips u v) (seen s (inked plan it.inks print) u v))

-- a page of pixels is the print of a planned page
pub record IsPrintOf (election : Election) (plan : PagePlan) (page : Page) (printed : PrintedPage) : Type 0 where
  pub planned : IsPlanned election printed plan
  pub painted : page ≡ bitmap_of election plan printed

-- every simulated scan of a printed page fits that page, with the marks that were drawn
abbrev pub SimulatedScansFit : Type 0
SimulatedScansFit =
    (election : Election) (printed : PrintedPage) (plan : PagePlan) (g : Lcg) → IsValid election → IsPlanned election printed plan
    → FitsUpright election (scan_of plan (print_of_page election plan printed) (draw_page election plan g).0) printed plan
    (draw_page election plan g).0.marks
