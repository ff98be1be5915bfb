-- What `check` does: it takes its election, then the scans, whose images it walks whole, and then the readings; and
-- then it tests page after page.
use Rattle.std.specs.Prelude.{ℕ, ◌+◌, List, [], ◌∷◌, length, Option, Some, None, Result, Ok, Err}
use Rattle.vx_plane.specs.Plane.{Page as Bitmap}
use Rattle.vx_code.specs.Code.{tag_of}
use Rattle.vx_election_model.specs.declared.election.Election.{Election}
use Rattle.vx_io.specs.Outside.{Files}
use Rattle.vx_pbm.specs.declared.fault.PbmFault.{PbmFault}
use Rattle.vx_pbm.specs.Images.{Images, images_of}
use Rattle.vx_refusals.specs.declared.readings.CertFault.TheVariants as cert
use Rattle.vx_readings.specs.declared.fault.ReadingsFault.{ReadingsFault}
use Rattle.vx_readings.specs.declared.said.SaidPage.{SaidPage}
use Rattle.vx_readings.specs.Readings.{Readings, readings_of}
use Rattle.vx_command.specs.declared.halt.Halt.{Halt}
use Rattle.vx_command.specs.declared.halt.Halt.TheVariants.{Pbm, NotCertified}
use Rattle.vx_command.specs.Acts.{Answer, Write, Outcome, after, goes_on, once_taken, input_limit}
use Rattle.vx_command.specs.Elections.{once_election, once_planned}
use Rattle.vx_command_check.specs.Answers.{page_answer, readings_halt}

-- the line of a page is written, and then comes the next one
abbrev pub page_outcome : Election → ℕ → Bitmap → SaidPage → Outcome → Outcome
page_outcome election number image said next =
    goes_on (page_answer election number image said) (λ line. after (Write line ∷ []) next)

-- the readings have so many pages, and the scans so many others
abbrev pub pages_halt : ℕ → ℕ → Halt
pages_halt said held = NotCertified (cert.Pages said held)

-- a line that leaves the grammar comes before anything else
abbrev pub unless_bad_line : Option ReadingsFault → Answer → Answer
unless_bad_line None answer = answer
unless_bad_line (Some fault) answer = Err (readings_halt fault)

-- how a command ends that has done so many pages, all that the scans have, by the pages of the readings that are left
abbrev pub ends_behind : ℕ → Option ReadingsFault → List SaidPage → Answer
ends_behind done fault [] = unless_bad_line fault (Ok tt)
ends_behind done fault (said ∷ more) = unless_bad_line fault (Err (pages_halt (done + length (said ∷ more)) done))

-- a command that ends here
abbrev pub ends_so : Answer → Outcome
ends_so answer = record { acts = []; ends = answer }

-- the pages that both the scans and the readings have, of which so many are done; then the lines of the readings that
-- are left; and then both have to have ended
abbrev pub pages_outcome : Election → ℕ → List Bitmap → List SaidPage → Option ReadingsFault → Outcome
pages_outcome election done [] said fault = ends_so (ends_behind done fault said)
pages_outcome election done (image ∷ images) [] fault =
    ends_so (unless_bad_line fault (Err (pages_halt done (done + length (image ∷ images)))))
pages_outcome election done (image ∷ images) (said ∷ more) fault =
    page_outcome election (done + 1) image said (pages_outcome election (done + 1) images more fault)

-- the same of the pages of readings
abbrev pub readings_outcome : Election → ℕ → List Bitmap → Readings → Outcome
readings_outcome election done images readings = pages_outcome election done images readings.pages readings.fault

-- so many images, unless one leaves the grammar of bitmaps
abbrev pub counted_unless : Option PbmFault → ℕ → Result ℕ Halt
counted_unless None count = Ok count
counted_unless (Some fault) count = Err (Pbm 2 fault)

-- how many images there are, if none leaves the grammar
abbrev pub images_counted : Images → Result ℕ Halt
images_counted images = counted_unless images.fault (length images.pages)

-- the readings that a text says for an election
abbrev pub readings_for : Election → List ℕ → Readings
readings_for election text = readings_of election.paper (tag_of election.digest) text

-- `check` of the readings of a file against the images of bytes
abbrev pub text_outcome : Election → List ℕ → Option (List ℕ) → Outcome
text_outcome election bytes readings =
    once_taken 3 input_limit readings (λ text.
    readings_outcome election 0 (images_of bytes).pages (readings_for election text))

-- the same, once all images were walked
abbrev pub bytes_outcome : Election → List ℕ → Option (List ℕ) → Outcome
bytes_outcome election bytes readings =
    goes_on (images_counted (images_of bytes)) (λ held. text_outcome election bytes readings)

-- `check` of readings against scans, each under its name
abbrev pub scans_outcome : Election → List ℕ → List ℕ → Files → Outcome
scans_outcome election scans readings files =
    once_taken 2 input_limit (files scans) (λ bytes. bytes_outcome election bytes (files readings))

-- `check` for the election under a name
abbrev pub check_outcome : List ℕ → List ℕ → List ℕ → Files → Outcome
check_outcome election scans readings files =
    once_election (files election) (λ given. once_planned given (scans_outcome given scans readings files))
