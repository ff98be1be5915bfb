-- The lines of the desk's data: the batch, a line for each sheet with a contest that waits, and what is left over.
use Rattle.std.specs.Prelude.{ℕ, Bool, true, nat_lt, if◌then◌else◌, List, [], ◌∷◌, map, filter, codes, Option, None, Some, Result, Ok}
use Rattle.serde_json.specs.Data.{Data, boolean, null}
use Rattle.vx_plane.specs.Plane.{Page}
use Rattle.vx_election_model.specs.declared.election.Election.{Election}
use Rattle.vx_rules.specs.declared.marks.ContestMarks.{ContestMarks}
use Rattle.vx_rules.specs.declared.marks.SheetMarks.{SheetMarks}
use Rattle.vx_rules.specs.Reasons.{is_blank_sheet}
use Rattle.vx_events.specs.declared.event.Event.{Event}
use Rattle.vx_events.specs.declared.key.Key.{Key}
use Rattle.vx_center.specs.Sheets.{Added, key_of, sheet_in}
use Rattle.vx_center.specs.Holders.{holder_of}
use Rattle.vx_scan_model.specs.declared.fault.PageFault.{PageFault}
use Rattle.vx_scan_model.specs.declared.reading.PageReading.{PageReading}
use Rattle.vx_scan_model.specs.Reading.{reading_of}
use Rattle.vx_markup.specs.Json.{text, whole, list, described}
use Rattle.vx_desk.specs.Contests.{contest_data}
use Rattle.vx_markup.specs.Escaped.{data_line}
use Rattle.vx_desk.specs.Kept.{are_kept}
use Rattle.vx_desk.specs.Shown.{Shown, image_with, shown_by}
use Rattle.vx_desk.specs.Waits.{any_waits, waiting_contests, waiting_in, waiting_sheets}

-- the first line: the batch and the election's title
abbrev pub first_data : Election → List ℕ → Data
first_data election batch = described
    ((codes "batch", text batch) ∷ (codes "election", text election.title) ∷ [])

unfoldable pub first_text : Election → List ℕ → List ℕ
first_text election batch = data_line (first_data election batch)

-- who holds a sheet, or nobody
abbrev pub holder_data : Option ℕ → Data
holder_data None = null
holder_data (Some station) = whole station

-- a contest of a sheet, on that of its two images where the contest stands
abbrev pub contest_on : Election → Bool → Shown → Shown → ContestMarks → Data
contest_on election sheet_blank first second marks =
    contest_data election sheet_blank marks (image_with marks.contest first second)

-- its contests that wait, in its order
abbrev pub contests_of : Election → List Event → Key → SheetMarks → Shown → Shown → Data
contests_of election kept key sheet first second =
    list (map (contest_on election (is_blank_sheet sheet) first second) (waiting_contests election kept key sheet))

-- what stands behind the contests of a sheet, and behind the word that its images are others: who holds it, its number, and
-- the name of the scan with its second image
abbrev pub behind_contests : List Event → Key → List ℕ → List (List ℕ × Data)
behind_contests kept key scan =
    (codes "holder", holder_data (holder_of kept key)) ∷ (codes "number", whole key.number) ∷ (codes "scan", text scan) ∷ []

-- a sheet whose images are what was kept: its contests that wait
abbrev pub kept_data : Election → List Event → Key → List ℕ → SheetMarks → Shown → Shown → Data
kept_data election kept key scan sheet first second =
    described ((codes "contests", contests_of election kept key sheet first second) ∷ behind_contests kept key scan)

-- a sheet whose images are not what was kept
abbrev pub differing_data : List Event → Key → List ℕ → Data
differing_data kept key scan = described ((codes "differs", boolean true) ∷ behind_contests kept key scan)

-- a sheet whose two images were read so, where they are what was kept
abbrev pub read_data : Election → List Event → Key → List ℕ → SheetMarks → Page → Page → Result PageReading PageFault → Result PageReading PageFault → Data
read_data election kept key scan sheet first second (Ok one) (Ok other) =
    kept_data election kept key scan sheet (shown_by election first one) (shown_by election second other)
read_data election kept key scan sheet first second one other = differing_data kept key scan

-- a sheet by its two images
abbrev pub sheet_data : Election → List Event → Key → List ℕ → SheetMarks → Page → Page → Data
sheet_data election kept key scan sheet first second =
    if are_kept election sheet key.number first second
    then read_data election kept key scan sheet first second (reading_of election first) (reading_of election second)
    else differing_data kept key scan

-- the line of a sheet that was added, if a contest of it waits
abbrev pub line_of : Election → List Event → Key → List ℕ → Page → Page → Option SheetMarks → List ℕ
line_of election kept key scan first second None = []
line_of election kept key scan first second (Some sheet) =
    if any_waits election kept key (Some sheet)
    then data_line (sheet_data election kept key scan sheet first second)
    else []

-- the line of the sheet of a batch with a number, by its two images, the second of which is in the scan with a name; nothing
-- where no contest of it waits
unfoldable pub sheet_text : Election → List Event → List ℕ → List ℕ → ℕ → Page → Page → List ℕ
sheet_text election kept batch scan number first second =
    line_of election kept (key_of batch number) scan first second (sheet_in kept (key_of batch number))

-- the numbers of the sheets of a batch that wait and are not among the first so many, whose images are there
abbrev pub missing_of : Election → List Event → List ℕ → ℕ → List ℕ
missing_of election kept batch sheets =
    map (λ (added : Added). added.key.number)
    (filter (λ (added : Added). nat_lt sheets added.key.number) (waiting_sheets election kept batch))

-- what is left over: numbers of sheets, and how many contests
abbrev pub left_data : List Data → ℕ → Data
left_data numbers contests = described ((codes "missing", list numbers) ∷ (codes "waiting", whole contests) ∷ [])

-- the last line: the sheets that wait and have no images here, and how many contests of the batch wait in all
abbrev pub last_data : Election → List Event → List ℕ → ℕ → Data
last_data election kept batch sheets =
    left_data (map whole (missing_of election kept batch sheets)) (waiting_in election kept batch)

unfoldable pub last_text : Election → List Event → List ℕ → ℕ → List ℕ
last_text election kept batch sheets = data_line (last_data election kept batch sheets)
