-- What `read` does: it takes its election, and then scan after scan, each of which it reads image after image.
use Rattle.std.specs.Prelude.{ℕ, ◌+◌, ◌∷◌, [], List, length}
use Rattle.vx_plane.specs.Plane.{Page}
use Rattle.vx_election_model.specs.declared.election.Election.{Election}
use Rattle.vx_io.specs.Outside.{Files}
use Rattle.vx_pbm.specs.Images.{Images, images_of}
use Rattle.vx_command.specs.Acts.{Act, Write, Outcome, finished, after, once_taken, input_limit}
use Rattle.vx_command.specs.Elections.{once_election, once_planned}
use Rattle.vx_command.specs.Images.{unless_faulty}
use Rattle.vx_readings.specs.ReadingText.{image_text}

-- the texts of images are written, the first of which has a number
abbrev pub image_acts : Election → ℕ → List Page → List Act
image_acts election number [] = []
image_acts election number (page ∷ pages) =
    Write (image_text election number page) ∷ image_acts election (number + 1) pages

-- the images of the scan of a word, the first of which has a number, and then what comes next
abbrev pub scan_outcome : Election → ℕ → ℕ → Images → Outcome → Outcome
scan_outcome election word number images next =
    after (image_acts election number images.pages) (unless_faulty word images.fault next)

-- the scans that the words from one on name, the first image of which has a number
abbrev pub scans_outcome : Election → Files → ℕ → ℕ → List (List ℕ) → Outcome
scans_outcome election files word number [] = finished
scans_outcome election files word number (name ∷ names) =
    once_taken word input_limit (files name) (λ bytes. scan_outcome election word number (images_of bytes)
    (scans_outcome election files (word + 1) (number + length (images_of bytes).pages) names))

-- `read` of scans for the election under a name; images are numbered from 1 over all of them
abbrev pub read_outcome : List ℕ → List (List ℕ) → Files → Outcome
read_outcome election scans files =
    once_election (files election) (λ given. once_planned given (scans_outcome given files 2 1 scans))
