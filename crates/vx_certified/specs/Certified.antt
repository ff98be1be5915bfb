-- What `read` wrote of scans, `check` accepts of them: a line for each image, `certified` where it was read and
-- `no reading` where it has a fault.
use Rattle.std.specs.Prelude.{◌≡◌, ◌≤◌, ℕ, ◌+◌, List, [], ◌∷◌, length, Some, Result, Ok, Err}
use Rattle.vx_plane.specs.Plane.{Page}
use Rattle.vx_election_model.specs.declared.election.Election.{Election}
use Rattle.vx_io.specs.Outside.{Files}
use Rattle.vx_pbm.specs.Images.{images_of}
use Rattle.vx_scan_model.specs.declared.reading.PageReading.{PageReading}
use Rattle.vx_scan_model.specs.declared.fault.PageFault.{PageFault}
use Rattle.vx_scan_model.specs.Reading.{reading_of}
use Rattle.vx_command.specs.Acts.{Act, Take, Write, Outcome, work, input_limit}
use Rattle.vx_command.specs.Elections.{election_in}
use Rattle.vx_command.specs.Texts.{texts_of}
use Rattle.vx_command_read.specs.Outcome.{read_outcome}
use Rattle.vx_command_check.specs.Answers.{certified_line, no_reading_line}
use Rattle.vx_command_check.specs.Outcome.{check_outcome}

-- the line of an image with a number, by what it is read as
abbrev pub line_of_reading : ℕ → Result PageReading PageFault → List ℕ
line_of_reading number (Ok reading) = certified_line number
line_of_reading number (Err fault) = no_reading_line number

-- a line is written for each image, the first of which has a number
abbrev pub line_acts : Election → ℕ → List Page → List Act
line_acts election number [] = []
line_acts election number (image ∷ images) =
    Write (line_of_reading number (reading_of election image)) ∷ line_acts election (number + 1) images

-- what `check` does that accepts all that is said of these images: it takes its three inputs, writes their lines, and
-- ends well
abbrev pub accepting : Election → List Page → Outcome
accepting election images = work (Take 1 ∷ Take 2 ∷ Take 3 ∷ line_acts election 1 images)

-- all that `read` of one file of scans writes
abbrev pub written : List ℕ → List ℕ → Files → List ℕ
written name scans files = texts_of (read_outcome name (scans ∷ []) files)

-- later there are the same election and the same scans, and under one more name what `read` wrote of them, which is no
-- longer than an input may be
pub record HoldWritten (name scans readings : List ℕ) (files later : Files) : Type 0 where
  pub same_election : later name ≡ files name
  pub same_scans : later scans ≡ files scans
  pub readings_are : later readings ≡ Some (written name scans files)
  pub fits : length (written name scans files) ≤ input_limit

-- `check` of those readings accepts them all, of the election and the images of the scans that `read` had
pub record AcceptsWritten (name scans readings : List ℕ) (files later : Files) : Type 0 where
  pub election : Election
  pub election_is : election_in (files name) ≡ Ok election
  pub bytes : List ℕ
  pub scans_are : files scans ≡ Some bytes
  pub accepts : check_outcome name scans readings later ≡ accepting election (images_of bytes).pages

-- so it is wherever `read` of that file ends well
abbrev pub WrittenReadingsAreCertified : Type 0
WrittenReadingsAreCertified =
    (name scans readings : List ℕ) (files later : Files)
    → (read_outcome name (scans ∷ []) files).ends ≡ Ok tt → HoldWritten name scans readings files later
    → AcceptsWritten name scans readings files later
