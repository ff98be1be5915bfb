-- What `check` certifies of scans that fit printed pages: where the line of such an image says `certified`, what the
-- readings say of it is that page and its marks, whoever made them.
use Rattle.std.specs.Prelude.{◌≡◌, ℕ, ◌+◌, List, [], ◌∷◌, slice_get, Bool, Option, Some, None, Result, Ok, Err}
use Rattle.std.specs.List.{flat_map}
use Rattle.vx_plane.specs.Plane.{Page as Bitmap}
use Rattle.vx_election_model.specs.declared.election.Election.{Election}
use Rattle.vx_election_model.specs.Valid.{IsValid}
use Rattle.vx_io.specs.Outside.{Files}
use Rattle.vx_layout.specs.declared.pages.PagePlan.{PagePlan}
use Rattle.vx_layout.specs.declared.plan.CardPlan.{CardPlan}
use Rattle.vx_layout.specs.Printed.{PrintedPage}
use Rattle.vx_pbm.specs.Images.{images_of}
use Rattle.vx_scan_model.specs.declared.reading.PageReading.{PageReading}
use Rattle.vx_scan_model.specs.Certificate.{Certifies}
use Rattle.vx_scan_model.specs.Fits.{Fits, Says}
use Rattle.vx_check.specs.Tests.{tested}
use Rattle.vx_readings.specs.declared.said.SaidReading.{SaidReading}
use Rattle.vx_readings.specs.declared.said.SaidPage.{SaidPage}
use Rattle.vx_readings.specs.declared.said.SaidPage.TheVariants.{Reading}
use Rattle.vx_command.specs.declared.halt.Halt.{Halt}
use Rattle.vx_command.specs.Acts.{Answer, input_of, input_limit}
use Rattle.vx_command.specs.Done.{Taken, Held, IsDone}
use Rattle.vx_command.specs.Elections.{election_in, plans_in}
use Rattle.vx_command.specs.Images.{unless_faulty_before}
use Rattle.vx_command.specs.Texts.{Wrote}
use Rattle.vx_command_check.specs.Answers.{certified_line, page_answer}
use Rattle.vx_command_check.specs.Outcome.{readings_for, check_outcome}

-- a line before others, unless the command halts there
abbrev pub line_and : Result (List ℕ) Halt → List (List ℕ) → List (List ℕ)
line_and (Err cause) lines = []
line_and (Ok line) lines = line ∷ lines

-- the lines of the pages that both the scans and the readings have, of which so many are done, up to the first that
-- halts the command
abbrev pub lines_checked : Election → ℕ → List Bitmap → List SaidPage → List (List ℕ)
lines_checked election done [] said = []
lines_checked election done (image ∷ images) [] = []
lines_checked election done (image ∷ images) (said ∷ more) =
    line_and (page_answer election (done + 1) image said) (lines_checked election (done + 1) images more)

-- the images of bytes that leave the grammar of bitmaps nowhere
abbrev pub images_taken : Result (List ℕ) Halt → List Bitmap
images_taken (Err cause) = []
images_taken (Ok bytes) = unless_faulty_before (images_of bytes).fault (images_of bytes).pages

-- the images that `check` tests
abbrev pub images_in : Files → List ℕ → List Bitmap
images_in files scans = images_taken (input_of 2 input_limit (files scans))

abbrev pub said_taken : Election → Result (List ℕ) Halt → List SaidPage
said_taken election (Err cause) = []
said_taken election (Ok text) = (readings_for election text).pages

-- what it finds said of them
abbrev pub said_in : Election → Files → List ℕ → List SaidPage
said_in election files readings = said_taken election (input_of 3 input_limit (files readings))

-- of the page in a place, counted from 0, a reading is said that says a printed page with its marks
pub record SaysPage (election : Election) (said : List SaidPage) (place : ℕ) (printed : PrintedPage) (marks : List Bool)
    : Type 0 where
  pub reading : SaidReading
  pub is_said : slice_get said place ≡ Some (Reading reading)
  pub says : Says election printed marks reading.reading

-- what was written is lines of pages; and where the line of an image that fits a printed page with some marks is
-- `certified`, that page with those marks is said of it
pub record CertifiesWhatFits (election : Election) (images : List Bitmap) (said : List SaidPage)
    (taken taken_now : Taken) (answer : Answer) : Type 0 where
  pub wrote : Wrote (flat_map (λ (line : List ℕ). line) (lines_checked election 0 images said)) taken taken_now answer
  pub says :
      (place : ℕ) (image : Bitmap) (printed : PrintedPage) (plan : PagePlan) (marks : List Bool)
      → slice_get images place ≡ Some image → Fits election image printed plan marks
      → slice_get (lines_checked election 0 images said) place ≡ Some (certified_line (place + 1))
      → SaysPage election said place printed marks

-- the same of `check` of scans and readings under their names, for an election that can be read and laid out
abbrev pub CheckSaysWhatFits : List ℕ → List ℕ → List ℕ → Files → Taken → Taken → Answer → Type 0
CheckSaysWhatFits name scans readings files taken taken_now answer =
    (election : Election) (plans : List CardPlan)
    → election_in (files name) ≡ Ok election → plans_in election ≡ Ok plans
    → CertifiesWhatFits election (images_in files scans) (said_in election files readings) taken taken_now answer

-- whatever stands of the acts of `check`, it certifies what fits
abbrev pub CertifiedPagesSayWhatFits : Type 0
CertifiedPagesSayWhatFits =
    (name scans readings : List ℕ) (files : Files) (taken taken_now : Taken) (held held_now : Held) (answer : Answer)
    → IsDone (check_outcome name scans readings files) taken taken_now held held_now answer
    → CheckSaysWhatFits name scans readings files taken taken_now answer
