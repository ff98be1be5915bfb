-- Certificates: what a reading has to be of a scan so that whoever trusts neither the reader nor who ran it may rely on
-- it. This project's own rule. Nothing in it says that a place is the best one.
use Rattle.std.specs.Prelude.{◌≡◌, ◌↔◌, List, Bool, true, Ok}
use Rattle.vx_plane.specs.Plane.{Page}
use Rattle.vx_grid.specs.Paper.{last_row}
use Rattle.vx_grid.specs.Marks.{marks as marks_of}
use Rattle.vx_grid.specs.Places.{point_at}
use Rattle.vx_count.specs.Turned.{turned_page, shown_page, IsWhole}
use Rattle.vx_grid.specs.declared.places.Point.{Point}
use Rattle.vx_mark_model.specs.Region.{Region, IsIn, is_in}
use Rattle.vx_mark_model.specs.Mark.{IsAccepted, is_accepted}
use Rattle.vx_mark_model.specs.Corner.{IsInCornerRegion}
use Rattle.vx_mark_model.specs.Following.{Closes}
use Rattle.vx_margin.specs.Chains.{IsChain}
use Rattle.vx_election_model.specs.declared.election.Election.{Election}
use Rattle.vx_election_model.specs.Valid.{IsValid}
use Rattle.vx_layout.specs.declared.pages.PagePlan.{PagePlan}
use Rattle.vx_layout.specs.Printed.{PrintedPage, IsPlanned, code_of}
use Rattle.vx_scan_model.specs.declared.reading.PageReading.{PageReading}
use Rattle.vx_scan_model.specs.Reading.{is_allowed, code_read, scores_of, states_of, reading_of}
use Rattle.vx_scan_model.specs.Fits.{FitsUpright, Fits, Says}

-- a reading is a certificate of a scan as it lies: the frame is allowed; the said border is of the election's paper; its
-- first place is where a corner may be, each place is accepted, each but the first lies near where the said places let
-- it be expected, and the border closes; the code at the said places is the said one, and that of a printed page; and
-- the said scores and states are those at the said places, one for each bubble of that page
pub record CertifiesUpright (election : Election) (scan : Page) (reading : PageReading) : Type 0 where
  pub allowed : is_allowed election.paper scan ≡ true
  pub of_paper : reading.border.paper ≡ election.paper
  pub start : IsInCornerRegion (point_at reading.border.places 0)
  pub chain : IsChain scan (last_row election.paper) (marks_of election.paper) reading.border.places
  pub closes : Closes (last_row election.paper) reading.border.places
  pub code : code_read scan reading.border ≡ Ok reading.code
  pub printed : PrintedPage
  pub plan : PagePlan
  pub planned : IsPlanned election printed plan
  pub code_is : reading.code ≡ code_of election printed
  pub scores : reading.scores ≡ scores_of scan reading.border plan.bubbles
  pub states : reading.states ≡ states_of election.thresholds reading.scores

-- as it lies, or where the reading is one of the turned scan, of that
abbrev pub Certifies : Election → Page → PageReading → Type 0
Certifies election scan reading = CertifiesUpright election (shown_page reading.turned scan) reading

-- what a scan is read as is a certificate of it
abbrev pub ReadingsAreCertificates : Type 0
ReadingsAreCertificates =
    (election : Election) (scan : Page) (reading : PageReading) → IsValid election
    → reading_of election scan ≡ Ok reading → Certifies election scan reading

-- every printed page that a scan fits, with the marks that it fits, is what a reading of it says
abbrev pub SaysWhatFits : Election → Page → PageReading → Type 0
SaysWhatFits election scan reading =
    (printed : PrintedPage) (plan : PagePlan) (marks : List Bool) → Fits election scan printed plan marks
    → Says election printed marks reading

-- so does every certificate of a scan, whoever made it
abbrev pub CertificatesSayWhatFits : Type 0
CertificatesSayWhatFits =
    (election : Election) (scan : Page) (reading : PageReading) → IsValid election → IsWhole scan
    → Certifies election scan reading → SaysWhatFits election scan reading

-- of a scan that fits a printed page with some marks when it is turned, nothing whatever is a certificate as it lies
abbrev pub TurnedPagesAreNotCertified : Type 0
TurnedPagesAreNotCertified =
    (election : Election) (scan : Page) (printed : PrintedPage) (plan : PagePlan) (marks : List Bool) (reading : PageReading)
    → IsValid election → IsWhole scan → FitsUpright election (turned_page scan) printed plan marks
    → CertifiesUpright election scan reading → ⊥

-- the tests of places say what the relations of places say
pub record PlacesAreTested : Type 0 where
  pub region : (region : Region) (p : Point) → (is_in region p ≡ true) ↔ IsIn region p
  pub accepted : (page : Page) (p : Point) → (is_accepted page p ≡ true) ↔ IsAccepted page p
