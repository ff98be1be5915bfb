-- What a call that reads a page answers for a scan that fits a printed page.
use Rattle.std.specs.Prelude.{◌≡◌, List, Bool, true, Result, Ok, Err}
use Rattle.vx_plane.specs.Plane.{Page}
use Rattle.vx_election_model.specs.declared.election.Election.{Election}
use Rattle.vx_layout.specs.declared.pages.PagePlan.{PagePlan}
use Rattle.vx_layout.specs.Printed.{PrintedPage}
use Rattle.vx_scan_model.specs.declared.reading.PageReading.{PageReading}
use Rattle.vx_scan_model.specs.declared.fault.PageFault.{PageFault}
use Rattle.vx_scan_model.specs.Faults.{is_no_memory}
use Rattle.vx_scan_model.specs.Fits.{Fits, Says}

-- the reading of that page with its marks, unless memory ran out
abbrev pub SaysPage : Election → PrintedPage → List Bool → Result PageReading PageFault → Type 0
SaysPage election printed marks (Ok reading) = Says election printed marks reading
SaysPage election printed marks (Err fault) = is_no_memory fault ≡ true

-- so for every printed page that the scan fits with some marks, as it lies or turned
abbrev pub ReadsWhatFits : Election → Page → Result PageReading PageFault → Type 0
ReadsWhatFits election page result =
    (printed : PrintedPage) (plan : PagePlan) (marks : List Bool) → Fits election page printed plan marks
    → SaysPage election printed marks result
