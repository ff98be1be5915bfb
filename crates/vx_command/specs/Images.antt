-- The images of scans, as a command comes to them.
use Rattle.std.specs.Prelude.{◌≡◌, ℕ, ◌+◌, List, [], ◌∷◌, ◌++◌, Option, Some, None, Result, Ok, Err, slice_get}
use Rattle.vx_plane.specs.Plane.{Page}
use Rattle.vx_io.specs.Outside.{Files}
use Rattle.vx_pbm.specs.declared.fault.PbmFault.{PbmFault}
use Rattle.vx_pbm.specs.Images.{images_of, IsWholePage}
use Rattle.vx_command.specs.declared.halt.Halt.{Halt}
use Rattle.vx_command.specs.declared.halt.Halt.TheVariants.{Pbm}
use Rattle.vx_command.specs.Acts.{Outcome, halted, input_limit, input_of}

-- what comes after the images of the scan of a word, unless a fault ended them
abbrev pub unless_faulty : ℕ → Option PbmFault → Outcome → Outcome
unless_faulty word None next = next
unless_faulty word (Some fault) next = halted (Pbm word fault)

-- pages that are read, unless a fault comes before them
abbrev pub unless_faulty_before : Option PbmFault → List Page → List Page
unless_faulty_before None pages = pages
unless_faulty_before (Some fault) pages = []

-- the images of an input that was taken, and then more of them; none where it wasn't
abbrev pub images_and : Result (List ℕ) Halt → List Page → List Page
images_and (Err cause) more = []
images_and (Ok bytes) more = (images_of bytes).pages ++ unless_faulty_before (images_of bytes).fault more

-- all images of the scans that the words from one on name, in order: up to the first scan that isn't there, is too long
-- or leaves the grammar of bitmaps
abbrev pub images_in : Files → ℕ → List (List ℕ) → List Page
images_in files word [] = []
images_in files word (name ∷ names) =
    images_and (input_of word input_limit (files name)) (images_in files (word + 1) names)

-- each of them is whole
abbrev pub ScannedImagesAreWhole : Type 0
ScannedImagesAreWhole =
    (files : Files) (word : ℕ) (names : List (List ℕ)) (place : ℕ) (image : Page)
    → slice_get (images_in files word names) place ≡ Some image → IsWholePage image
