-- What `read` writes of an image ends a line, so a text has at least as many lines and bytes as images.
use Rattle.std.proofs.Common.{◌≡◌, ◌+◌, ◌≤◌, ◌==◌, ℕ, Bool, true, false, cond, List, [], ◌∷◌, ◌++◌, length, arith, refl, ap}
use Rattle.std.specs.Prelude.{codes, Result, Ok, Err}
use Rattle.std.specs.List.{flat_map}
use Rattle.std.specs.Fmt.{decimal}
use Rattle.vx_plane.specs.Plane.{Page}
use Rattle.vx_election_model.specs.declared.election.Election.{Election}
use Rattle.vx_scan_model.specs.declared.fault.PageFault.{PageFault}
use Rattle.vx_scan_model.specs.declared.reading.PageReading.{PageReading}
use Rattle.vx_scan_model.specs.FaultTexts.{fault_text}
use Rattle.vx_scan_model.specs.Reading.{named_plan, reading_of}
use Rattle.vx_readings.specs.Parts.{begun_with, lines_of}
use Rattle.vx_readings.specs.ReadingText.{line_of, page_line, border_line, bubble_lines, bubbles_on, reading_text, image_text}
use Rattle.vx_command.specs.Acts.{text_of}
use Rattle.vx_command_read.specs.Margin.{texts_of_images}
use Rattle.vx_command_read.specs.Outcome.{image_acts}

-- how many lines end in a text
ends : List ℕ → ℕ
ends [] = 0
ends (byte ∷ text) = cond (byte == 10) 1 0 + ends text

ends-both : (a b : List ℕ) → ends (a ++ b) ≡ ends a + ends b
unfolding ends
ends-both [] b = omega arith
ends-both (byte ∷ a) b = let more = ends-both a b in omega (arith, more)

-- a text has at least as many bytes, and as many lines
ends-bytes : (text : List ℕ) → ends text ≤ length text
unfolding ends
ends-bytes [] = omega arith
ends-bytes (byte ∷ text) = by_byte (byte == 10) (ends-bytes text)
  where
    by_byte : (is : Bool) → ends text ≤ length text → cond is 1 0 + ends text ≤ length (byte ∷ text)
    by_byte true more = omega (arith, more)
    by_byte false more = omega (arith, more)

begun-lines : (byte : ℕ) (lines : List (List ℕ)) → length lines ≤ length (begun_with byte lines)
begun-lines byte [] = omega arith
begun-lines byte (line ∷ lines) = omega arith

ends-lines : (text : List ℕ) → ends text ≤ length (lines_of text)
unfolding ends lines_of
ends-lines [] = omega arith
ends-lines (byte ∷ text) = by_byte (byte == 10) (ends-lines text)
  where
    by_byte : (is : Bool) → ends text ≤ length (lines_of text) → cond is 1 0 + ends text ≤ length (cond is ([] ∷ lines_of text) (begun_with byte (lines_of text)))
    by_byte true more = omega (arith, more)
    by_byte false more = omega (arith, more, begun-lines byte (lines_of text))

-- a line ends
ends-line : (words : List (List ℕ)) → 1 ≤ ends (line_of words)
unfolding ends
ends-line [] = omega arith
ends-line (word ∷ []) = let both = ends-both word (10 ∷ []) in omega (arith, both)
ends-line (word ∷ next ∷ words) =
    let both = ends-both word (32 ∷ line_of (next ∷ words)) in
    let more = ends-line (next ∷ words) in
    omega (arith, both, more)

ends-reading : (election : Election) (number : ℕ) (read : Result PageReading PageFault) → 1 ≤ ends (reading_text election number read)
ends-reading election number (Ok reading) =
    let front = page_line number reading.code reading.turned ++ border_line reading.border.places ++ bubble_lines (bubbles_on (named_plan election reading.code)) reading.scores reading.states in
    let last = line_of (codes "end" ∷ []) in
    omega (arith, ends-both front last, ends-line (codes "end" ∷ []))
ends-reading election number (Err fault) = ends-line (codes "page" ∷ decimal number ∷ codes "fault" ∷ fault_text fault ∷ [])

ends-image : (election : Election) (number : ℕ) (image : Page) → 1 ≤ ends (image_text election number image)
unfolding image_text
ends-image election number image = ends-reading election number (reading_of election image)

ends-images : (election : Election) (number : ℕ) (images : List Page) → length images ≤ ends (texts_of_images election number images)
ends-images election number [] = omega arith
ends-images election number (image ∷ images) =
    let text = image_text election number image in
    let more = texts_of_images election (number + 1) images in
    omega (arith, ends-both text more, ends-image election number image, ends-images election (number + 1) images)

pub images-bytes : (election : Election) (number : ℕ) (images : List Page) → length images ≤ length (texts_of_images election number images)
images-bytes election number images =
    omega (arith, ends-images election number images, ends-bytes (texts_of_images election number images))

pub images-lines : (election : Election) (number : ℕ) (images : List Page) → length images ≤ length (lines_of (texts_of_images election number images))
images-lines election number images =
    omega (arith, ends-images election number images, ends-lines (texts_of_images election number images))

-- the texts that are written, one after another
pub texts-acts : (election : Election) (number : ℕ) (images : List Page) → flat_map text_of (image_acts election number images ++ []) ≡ texts_of_images election number images
texts-acts election number [] = refl
texts-acts election number (image ∷ images) = ap (λ rest. image_text election number image ++ rest) (texts-acts election (number + 1) images)
