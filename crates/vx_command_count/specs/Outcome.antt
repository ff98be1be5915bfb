-- What `count` does: it takes its election, reads the journal, and then takes scan after scan, each of which it reads
-- image after image; two images are a sheet, also where the second is the first of the next scan.
use Rattle.std.specs.Prelude.{ℕ, ◌+◌, ◌++◌, ◌∷◌, [], List, Result}
use Rattle.vx_plane.specs.Plane.{Page}
use Rattle.vx_election_model.specs.declared.election.Election.{Election}
use Rattle.vx_io.specs.Outside.{Files}
use Rattle.vx_pbm.specs.Images.{Images, images_of}
use Rattle.vx_rules.specs.declared.marks.SheetMarks.{SheetMarks}
use Rattle.vx_scan_model.specs.Reading.{reading_of}
use Rattle.vx_sheet.specs.declared.came.Came.{Came}
use Rattle.vx_sheet.specs.declared.came.Came.TheVariants.{Single}
use Rattle.vx_sheet.specs.Came.{sheet_read}
use Rattle.vx_sheet.specs.Lines.{lines_of, counted_line}
use Rattle.vx_command.specs.Acts.{Act, Write, Outcome, work, after, once_taken, input_limit}
use Rattle.vx_command.specs.Elections.{once_election, once_planned}
use Rattle.vx_command.specs.Images.{unless_faulty}
use Rattle.vx_journal.specs.declared.journal.Journal.{Journal}
use Rattle.vx_journal.specs.Keeping.{begin_acts}
use Rattle.vx_journal.specs.Steps.{once_read}
use Rattle.vx_command_count.specs.declared.counting.Counting.{Counting}
use Rattle.vx_command_count.specs.declared.tally.Tally.{Tally}
use Rattle.vx_command_count.specs.Tally.{none_counted, next_image, next_number, tally_with}
use Rattle.vx_command_count.specs.Sheets.{sheet_acts, counted_with}

-- what was read of the next sheet's two images
abbrev pub read_next : Election → Counting → Page → Page → Result SheetMarks Came
read_next election counting first second =
    sheet_read election (next_image counting.tally) (reading_of election first) (reading_of election second)

-- sheet after sheet, of two images each, and then what comes next, with the image that is left over, if one is
abbrev pub with_images : Election → List ℕ → Counting → List Page → (Counting → List Page → Outcome) → Outcome
with_images election batch counting [] rest = rest counting []
with_images election batch counting (single ∷ []) rest = rest counting (single ∷ [])
with_images election batch counting (first ∷ (second ∷ images)) rest =
    after (sheet_acts election batch counting (read_next election counting first second))
    (with_images election batch (counted_with batch counting (read_next election counting first second)) images rest)

-- the images of the scan of a word, behind one that waits, and then what comes next
abbrev pub scan_outcome : Election → List ℕ → ℕ → Counting → List Page → Images → (Counting → List Page → Outcome) → Outcome
scan_outcome election batch word counting waiting images next =
    with_images election batch counting (waiting ++ images.pages)
    (λ now left. unless_faulty word images.fault (next now left))

-- a last image without a second is a sheet of its own, and is never read
abbrev pub last_acts : Election → List ℕ → Tally → List Page → List Act
last_acts election batch tally [] = []
last_acts election batch tally (single ∷ images) = Write (lines_of election batch (next_number tally) Single) ∷ []

abbrev pub last_tally : Tally → List Page → Tally
last_tally tally [] = tally
last_tally tally (single ∷ images) = tally_with tally Single

-- how many sheets were added, were there before, and all others
abbrev pub counted_text : Tally → List ℕ
counted_text tally = counted_line tally.added tally.repeated tally.unread

-- the end of a count
abbrev pub end_outcome : Election → List ℕ → Tally → List Page → Outcome
end_outcome election batch tally waiting =
    work (last_acts election batch tally waiting ++ Write (counted_text (last_tally tally waiting)) ∷ [])

-- the scans that the words from one on name, where an image may wait
abbrev pub scans_outcome : Election → List ℕ → Files → ℕ → Counting → List Page → List (List ℕ) → Outcome
scans_outcome election batch files word counting waiting [] = end_outcome election batch counting.tally waiting
scans_outcome election batch files word counting waiting (name ∷ names) =
    once_taken word input_limit (files name) (λ bytes. scan_outcome election batch word counting waiting (images_of bytes)
    (λ now left. scans_outcome election batch files (word + 1) now left names))

-- the journal is begun where it is empty, and then the scans are counted, the first of which is word 4
abbrev pub journal_outcome : Election → List ℕ → List (List ℕ) → Files → Journal → Outcome
journal_outcome election batch scans files journal =
    after (begin_acts journal)
    (scans_outcome election batch files 4 (record { journal = journal; tally = none_counted }) [] scans)

-- `count` of scans as a batch for the election under a name, with these files and records
abbrev pub count_outcome : List ℕ → List ℕ → List (List ℕ) → Files → List (List ℕ) → Outcome
count_outcome election batch scans files records =
    once_election (files election)
    (λ given. once_planned given (once_read given records (journal_outcome given batch scans files)))
