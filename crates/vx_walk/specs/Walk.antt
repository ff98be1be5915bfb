-- The walk over scans: each is taken and gone through image after image, and two images are a sheet, also where the second is the
-- first of the next scan.
use Rattle.std.specs.Prelude.{ℕ, ◌+◌, ◌++◌, ◌∷◌, [], List}
use Rattle.vx_plane.specs.Plane.{Page}
use Rattle.vx_io.specs.Outside.{Files}
use Rattle.vx_pbm.specs.Images.{Images, images_of}
use Rattle.vx_command.specs.Acts.{Outcome, input_limit, once_taken}
use Rattle.vx_command.specs.Images.{unless_faulty}

-- what a sheet with a number does by its two images, and then what comes next
abbrev pub SheetStep : Type 0
SheetStep = ℕ → Page → Page → Outcome → Outcome

-- behind so many sheets: sheet after sheet, and then what comes next, with the image that is left over, if one is; sheet n is the
-- images 2n - 1 and 2n
abbrev pub with_images : SheetStep → ℕ → List Page → (ℕ → List Page → Outcome) → Outcome
with_images step sheets [] rest = rest sheets []
with_images step sheets (single ∷ []) rest = rest sheets (single ∷ [])
with_images step sheets (first ∷ (second ∷ images)) rest =
    step (sheets + 1) first second (with_images step (sheets + 1) images rest)

-- the images of the scan of a word, behind one that waits for its second, and then what comes next
abbrev pub scan_outcome : SheetStep → ℕ → ℕ → List Page → Images → (ℕ → List Page → Outcome) → Outcome
scan_outcome step word sheets waiting images next =
    with_images step sheets (waiting ++ images.pages) (λ now left. unless_faulty word images.fault (next now left))

-- the scans that the words from one on name, where an image may wait, with what the sheets of each scan do by its name; and what
-- is done at their end, by how many sheets there were and the image that is left over, if one is
abbrev pub scans_outcome : (List ℕ → SheetStep) → (ℕ → List Page → Outcome) → Files → ℕ → ℕ → List Page → List (List ℕ) → Outcome
scans_outcome step ending files word sheets waiting [] = ending sheets waiting
scans_outcome step ending files word sheets waiting (name ∷ names) =
    once_taken word input_limit (files name) (λ bytes. scan_outcome (step name) word sheets waiting (images_of bytes)
    (λ now left. scans_outcome step ending files (word + 1) now left names))
