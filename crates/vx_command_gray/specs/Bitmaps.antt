-- What `gray` wrote, as bitmaps: read back it gives the bits of each image of its scans, and what fits a printed page
-- with some marks in gray fits it so there.
use Rattle.std.specs.Prelude.{◌≡◌, ℕ, ◌+◌, List, [], ◌∷◌, ◌++◌, map, slice_get, Bool, Option, None, Some, Result, Ok, Err}
use Rattle.std.specs.List.{flat_map}
use Rattle.vx_plane.specs.Plane.{Page}
use Rattle.vx_pbm.specs.Raw.{p4_of}
use Rattle.vx_pbm.specs.Images.{images_of as bitmaps_of}
use Rattle.vx_election_model.specs.declared.election.Election.{Election}
use Rattle.vx_layout.specs.declared.pages.PagePlan.{PagePlan}
use Rattle.vx_layout.specs.Printed.{PrintedPage}
use Rattle.vx_scan_model.specs.Fits.{Fits}
use Rattle.vx_gray.specs.declared.fault.PgmFault.{PgmFault}
use Rattle.vx_gray.specs.Fits.{FitsGray}
use Rattle.vx_gray.specs.Gray.{Gray, bits_of}
use Rattle.vx_gray.specs.Images.{images_of}
use Rattle.vx_io.specs.Outside.{Files}
use Rattle.vx_command.specs.declared.halt.Halt.{Halt}
use Rattle.vx_command.specs.Acts.{input_limit, input_of}
use Rattle.vx_command.specs.Done.{Taken}
use Rattle.vx_command.specs.Texts.{Wrote}
use Rattle.vx_command_gray.specs.declared.status.GrayStatus.{GrayStatus}
use Rattle.vx_command_gray.specs.Done.{IsGrayDone}
use Rattle.vx_command_gray.specs.Outcome.{gray_outcome}
use Rattle.vx_command_gray.specs.Status.{answer_of}

-- pages that are read, unless a fault comes before them
abbrev pub unless_faulty_before : Option PgmFault → List Gray → List Gray
unless_faulty_before None pages = pages
unless_faulty_before (Some fault) pages = []

-- the images of an input that was taken, and then more of them; none where it wasn't
abbrev pub grays_and : Result (List ℕ) Halt → List Gray → List Gray
grays_and (Err cause) more = []
grays_and (Ok bytes) more = (images_of bytes).pages ++ unless_faulty_before (images_of bytes).fault more

-- all images of the scans that the words from one on name, in order: up to the first scan that isn't there, is too long
-- or leaves the grammar of raw grayscale images
abbrev pub grays_in : Files → ℕ → List (List ℕ) → List Gray
grays_in files word [] = []
grays_in files word (name ∷ names) =
    grays_and (input_of word input_limit (files name)) (grays_in files (word + 1) names)

-- the bitmaps of pages as one text
abbrev pub bitmaps_text : List Gray → List ℕ
bitmaps_text pages = flat_map (λ page. p4_of (bits_of page)) pages

-- however far a `gray` has come, it wrote the bitmaps of its images in order: a front of their text, and the whole where
-- it didn't break off
abbrev pub BitmapsAreWritten : Type 0
BitmapsAreWritten =
    (files : Files) (scans : List (List ℕ)) (taken taken_now : Taken) (status : GrayStatus)
    → IsGrayDone (gray_outcome scans files) taken taken_now status
    → Wrote (bitmaps_text (grays_in files 1 scans)) taken taken_now (answer_of status)

-- what is written so is read as the bits of the images
abbrev pub BitmapsReadBack : Type 0
BitmapsReadBack =
    (files : Files) (scans : List (List ℕ))
    → bitmaps_of (bitmaps_text (grays_in files 1 scans)) ≡ record { pages = map bits_of (grays_in files 1 scans); fault = None }

-- so an image that fits a printed page with some marks is read back as one that does
abbrev pub BitmapsFit : Type 0
BitmapsFit =
    (files : Files) (scans : List (List ℕ)) (place : ℕ) (gray : Gray)
    (election : Election) (printed : PrintedPage) (plan : PagePlan) (marks : List Bool)
    → slice_get (grays_in files 1 scans) place ≡ Some gray → FitsGray election gray printed plan marks
    → (page : Page) × (slice_get (bitmaps_of (bitmaps_text (grays_in files 1 scans))).pages place ≡ Some page)
    × Fits election page printed plan marks

-- a `gray` wrote the bitmaps of its images: read back they are the bits of the images, and each image that fits a printed
-- page with some marks is read back as one that does
pub record WritesBitmaps (scans : List (List ℕ)) (files : Files) (taken taken_now : Taken) (status : GrayStatus) : Type 0 where
  pub wrote : Wrote (bitmaps_text (grays_in files 1 scans)) taken taken_now (answer_of status)
  pub read_back :
      bitmaps_of (bitmaps_text (grays_in files 1 scans)) ≡ record { pages = map bits_of (grays_in files 1 scans); fault = None }
  pub fit :
      (place : ℕ) (gray : Gray) (election : Election) (printed : PrintedPage) (plan : PagePlan) (marks : List Bool)
      → slice_get (grays_in files 1 scans) place ≡ Some gray → FitsGray election gray printed plan marks
      → (page : Page) × (slice_get (bitmaps_of (bitmaps_text (grays_in files 1 scans))).pages place ≡ Some page)
      × Fits election page printed plan marks
