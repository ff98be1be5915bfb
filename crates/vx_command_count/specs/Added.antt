-- What `count` appends of scans of which each two images are a sheet.
use Rattle.std.specs.Prelude.{◌≡◌, ◌<◌, ◌≤◌, ℕ, ◌+◌, List, [], ◌∷◌, ◌++◌, length, None, Ok}
use Rattle.std.specs.List.{flat_map}
use Rattle.vx_plane.specs.Plane.{Page}
use Rattle.vx_center.specs.Replies.{event_limit}
use Rattle.vx_center.specs.Sheets.{place_in}
use Rattle.vx_election_model.specs.declared.election.Election.{Election}
use Rattle.vx_events.specs.declared.event.Event.{Event}
use Rattle.vx_events.specs.declared.event.Event.TheVariants.{Add}
use Rattle.vx_io.specs.Outside.{Files}
use Rattle.vx_layout.specs.declared.plan.CardPlan.{CardPlan}
use Rattle.vx_records.specs.Records.{record_of}
use Rattle.vx_rules.specs.declared.marks.SheetMarks.{SheetMarks}
use Rattle.vx_scan_model.specs.Reading.{reading_of}
use Rattle.vx_sheet.specs.Came.{sheet_read}
use Rattle.vx_sheet.specs.Events.{number_limit}
use Rattle.vx_command.specs.Acts.{records_of}
use Rattle.vx_command.specs.Elections.{election_in, plans_in}
use Rattle.vx_command.specs.Images.{images_in}
use Rattle.vx_journal.specs.Replay.{replay_of}
use Rattle.vx_command_count.specs.Margin.{header_if_none, key_at}
use Rattle.vx_command_count.specs.Outcome.{count_outcome}

-- two images are read and paired as a sheet, whatever number they have
abbrev pub IsSheet : Election → Page → Page → SheetMarks → Type 0
IsSheet election first second sheet =
    (image : ℕ) → sheet_read election image (reading_of election first) (reading_of election second) ≡ Ok sheet

-- images are these sheets, two by two, and none is left over
abbrev pub AreSheets : Election → List Page → List SheetMarks → Type 0
AreSheets election [] [] = Unit {0}
AreSheets election (first ∷ (second ∷ images)) (sheet ∷ sheets) =
    IsSheet election first second sheet × AreSheets election images sheets
AreSheets election images sheets = ⊥

-- the records that add sheets to a batch, the first of which stands in a place: sheets are numbered from 1
abbrev pub add_records : List ℕ → ℕ → List SheetMarks → List (List ℕ)
add_records batch place [] = []
add_records batch place (sheet ∷ sheets) =
    record_of (Add (key_at batch place) sheet) ∷ add_records batch (place + 1) sheets

-- sheets can be added to a journal with these events as a batch: their numbers may be, there is room, their keys are new
pub record MayBeAdded (events : List Event) (batch : List ℕ) (sheets : List SheetMarks) : Type 0 where
  pub numbers : length sheets ≤ number_limit
  pub room : length events + length sheets ≤ event_limit
  pub new : (place : ℕ) → place < length sheets → place_in events (key_at batch place) ≡ None

-- where all images of the scans are such sheets, `count` appends the record of each of them in order, behind the header if
-- there was none, and nothing else
abbrev pub SheetsAreAdded : Type 0
SheetsAreAdded =
    (name batch : List ℕ) (scans : List (List ℕ)) (files : Files) (records : List (List ℕ)) (election : Election)
    (plans : List CardPlan) (events : List Event) (sheets : List SheetMarks)
    → election_in (files name) ≡ Ok election → plans_in election ≡ Ok plans → replay_of election records ≡ Ok events
    → AreSheets election (images_in files 4 scans) sheets → MayBeAdded events batch sheets
    → flat_map records_of (count_outcome name batch scans files records).acts
    ≡ header_if_none election records ++ add_records batch 0 sheets
