-- The sheets of a scan that is one item: what is read of each, the event that it makes, or its line where it makes
-- none.
use Rattle.std.specs.Prelude.{ℕ, ◌+◌, ◌-◌, ◌*◌, List, [], ◌∷◌, ◌++◌, Result, Ok, Err}
use Rattle.vx_plane.specs.Plane.{Page}
use Rattle.vx_election_model.specs.declared.election.Election.{Election}
use Rattle.vx_events.specs.declared.event.Event.{Event}
use Rattle.vx_rules.specs.declared.marks.SheetMarks.{SheetMarks}
use Rattle.vx_scan_model.specs.Reading.{reading_of}
use Rattle.vx_sheet.specs.declared.came.Came.{Came}
use Rattle.vx_sheet.specs.declared.came.Came.TheVariants.{Single}
use Rattle.vx_sheet.specs.Came.{sheet_read}
use Rattle.vx_sheet.specs.Events.{event_of}
use Rattle.vx_sheet.specs.Lines.{lines_of}

-- what is read of the sheet of two images that has a number: sheet n is the images 2n - 1 and 2n
abbrev pub read_of : Election → ℕ → Page → Page → Result SheetMarks Came
read_of election number first second =
    sheet_read election (2 * number - 1) (reading_of election first) (reading_of election second)

-- what is read of the sheets of images, the first of which has a number: two images are a sheet; a last image without a
-- second is a sheet of its own, and is never read
abbrev pub sheets_from : Election → ℕ → List Page → List (Result SheetMarks Came)
sheets_from election number [] = []
sheets_from election number (single ∷ []) = Err Single ∷ []
sheets_from election number (first ∷ (second ∷ images)) =
    read_of election number first second ∷ sheets_from election (number + 1) images

-- the event of a sheet, where it makes one
abbrev pub events_made : Result Event Came → List Event
events_made (Err came) = []
events_made (Ok event) = event ∷ []

-- its lines, where it makes none
abbrev pub lines_told : Election → List ℕ → ℕ → Result Event Came → List ℕ
lines_told election batch number (Err came) = lines_of election batch number came
lines_told election batch number (Ok event) = []

-- the same of the sheet with a number, of whose images this was read
abbrev pub event_if : List ℕ → ℕ → Result SheetMarks Came → List Event
event_if batch number read = events_made (event_of batch number read)

abbrev pub lines_unless : Election → List ℕ → ℕ → Result SheetMarks Came → List ℕ
lines_unless election batch number read = lines_told election batch number (event_of batch number read)

-- the events of sheets in order, the first of which has a number
abbrev pub events_from : List ℕ → ℕ → List (Result SheetMarks Came) → List Event
events_from batch number [] = []
events_from batch number (read ∷ reads) = event_if batch number read ++ events_from batch (number + 1) reads

-- the lines of those that make no event
abbrev pub lines_from : Election → List ℕ → ℕ → List (Result SheetMarks Came) → List ℕ
lines_from election batch number [] = []
lines_from election batch number (read ∷ reads) =
    lines_unless election batch number read ++ lines_from election batch (number + 1) reads

-- the events of the sheets of a scan's images, numbered from 1
abbrev pub events_in : Election → List ℕ → List Page → List Event
events_in election batch images = events_from batch 1 (sheets_from election 1 images)

-- the lines of those of them that make no event
abbrev pub lines_in : Election → List ℕ → List Page → List ℕ
lines_in election batch images = lines_from election batch 1 (sheets_from election 1 images)
