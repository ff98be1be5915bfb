-- A scan that fits a printed page is read as that page.
use Rattle.std.proofs.Common.{◌≡◌, ◌∙◌, sym, ap, subst, List, Bool, true, false, Result, Ok, Err, refl}
use Rattle.vx_base.specs.Refusals.{Unless, Gives}
use Rattle.vx_plane.specs.Plane.{Page}
use Rattle.vx_count.specs.Turned.{IsWhole}
use Rattle.vx_election_model.specs.declared.election.Election.{Election}
use Rattle.vx_election_model.specs.Valid.{IsValid}
use Rattle.vx_layout.specs.Printed.{PrintedPage}
use Rattle.vx_scan_model.specs.declared.reading.PageReading.{PageReading}
use Rattle.vx_scan_model.specs.declared.fault.PageFault.{PageFault}
use Rattle.vx_scan_model.specs.Faults.{is_no_memory}
use Rattle.vx_scan_model.specs.Reading.{reading_of}
use Rattle.vx_scan_model.specs.Fits.{Says, FittingScansAreRead}
use Rattle.vx_page.specs.Margin.{SaysPage, ReadsWhatFits}

same-reading : (a b : PageReading) → ◌≡◌ {A = Result PageReading PageFault} (Ok a) (Ok b) → a ≡ b
same-reading a b e = cc

no-fault : (election : Election) (printed : PrintedPage) (marks : List Bool) (reading : PageReading) (fault : PageFault) (memory : Bool) → is_no_memory fault ≡ memory
    → Unless memory (Ok reading ≡ Err fault) → is_no_memory fault ≡ true
no-fault election printed marks reading fault true is h = is
no-fault election printed marks reading fault false is h = cc

said : (election : Election) (printed : PrintedPage) (marks : List Bool) (reading : PageReading) (result : Result PageReading PageFault)
    → Says election printed marks reading → Gives is_no_memory result (Ok reading) → SaysPage election printed marks result
said election printed marks reading (Ok given) says gives = subst (Says election printed marks) (same-reading reading given gives) says
said election printed marks reading (Err fault) says gives = no-fault election printed marks reading fault (is_no_memory fault) refl gives

-- what is given for a scan that fits
pub reads-what_fits : FittingScansAreRead → (election : Election) (page : Page) (result : Result PageReading PageFault) → IsValid election → IsWhole page
    → Gives is_no_memory result (reading_of election page) → ReadsWhatFits election page result
reads-what_fits read election page result valid whole gives printed plan marks fits =
    let as_it_is = read election page printed plan marks valid whole fits in
    said election printed marks as_it_is.reading result as_it_is.says (subst (Gives is_no_memory result) as_it_is.is_read gives)
