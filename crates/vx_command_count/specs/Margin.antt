-- What `count` keeps of scans that fit printed pages: where the two images of a sheet fit the front and the back of a
-- card, its record stands among those that are appended, with the marks of both pages.
use Rattle.std.specs.Prelude.{All, ◌≡◌, ◌<◌, ◌≤◌, ℕ, ◌+◌, ◌*◌, if◌then◌else◌, List, [], ◌∷◌, ◌++◌, length, slice_get, Bool, false, Option, Some, None, Ok}
use Rattle.vx_plane.specs.Plane.{Page}
use Rattle.vx_count.specs.Turned.{IsWhole}
use Rattle.vx_grid.specs.declared.state.State.{State}
use Rattle.vx_center.specs.Replies.{event_limit}
use Rattle.vx_center.specs.Sheets.{marks_on, place_in}
use Rattle.vx_election_model.specs.declared.election.Election.{Election}
use Rattle.vx_election_model.specs.Valid.{IsValid}
use Rattle.vx_events.specs.declared.event.Event.{Event}
use Rattle.vx_events.specs.declared.event.Event.TheVariants.{Add}
use Rattle.vx_events.specs.declared.key.Key.{Key}
use Rattle.vx_io.specs.Outside.{Files}
use Rattle.vx_layout.specs.declared.bubbles.Bubble.{Bubble}
use Rattle.vx_layout.specs.declared.pages.PagePlan.{PagePlan}
use Rattle.vx_layout.specs.declared.plan.CardPlan.{CardPlan}
use Rattle.vx_records.specs.Records.{header_of, record_of}
use Rattle.vx_rules.specs.declared.marks.ContestMarks.{ContestMarks}
use Rattle.vx_rules.specs.declared.marks.SheetMarks.{SheetMarks}
use Rattle.vx_scan_model.specs.Fits.{state_of_mark}
use Rattle.vx_sheet.specs.declared.came.Came.TheVariants.{Added}
use Rattle.vx_sheet.specs.Events.{number_limit}
use Rattle.vx_sheet.specs.Lines.{lines_of}
use Rattle.vx_sheet.specs.Margin.{FitsSheet, MarkedSheet, sheet_marked}
use Rattle.vx_command.specs.Acts.{Append, Write, Answer}
use Rattle.vx_command.specs.Done.{Taken, Held, Keeps, IsDone}
use Rattle.vx_command.specs.Elections.{election_in, plans_in}
use Rattle.vx_command.specs.Images.{images_in}
use Rattle.vx_command.specs.Texts.{broke_off}
use Rattle.vx_journal.specs.Keeping.{has_none}
use Rattle.vx_journal.specs.Replay.{replay_of}
use Rattle.vx_command_count.specs.declared.counting.Counting.{Counting}
use Rattle.vx_command_count.specs.Tally.{next_number}
use Rattle.vx_command_count.specs.Sheets.{sheet_acts}
use Rattle.vx_command_count.specs.Outcome.{count_outcome, read_next}

-- what a sheet has of an option of a contest, if it has the contest
abbrev pub state_in : Option ContestMarks → ℕ → Option State
state_in None option = None
state_in (Some marks) option = slice_get marks.states option

-- a sheet says of each bubble of a page, at its contest and its option, that it is Marked where it is marked, else Clear
abbrev pub SaysEachMark : SheetMarks → PagePlan → List Bool → Type 0
SaysEachMark said plan marks =
    (n : ℕ) (bubble : Bubble) (mark : Bool)
    → slice_get plan.bubbles n ≡ Some bubble → slice_get marks n ≡ Some mark
    → state_in (marks_on said bubble.contest) bubble.option ≡ Some (state_of_mark mark)

-- so it is counted, of both of its pages
abbrev pub MarkedSheetsSayEachMark : Type 0
MarkedSheetsSayEachMark =
    (election : Election) (first second : Page) (sheet : MarkedSheet) → IsValid election → FitsSheet election first second sheet
    → SaysEachMark (sheet_marked sheet) sheet.front_plan sheet.front_marks
    × SaysEachMark (sheet_marked sheet) sheet.back_plan sheet.back_marks

-- of two images that fit a sheet, where its key is new, its number at most 999,999 and the machine not full, its record
-- is appended, and then it is told as added
abbrev pub FittingSheetsAreAdded : Type 0
FittingSheetsAreAdded =
    (election : Election) (batch : List ℕ) (counting : Counting) (first second : Page) (sheet : MarkedSheet)
    → IsValid election → IsWhole first → IsWhole second → FitsSheet election first second sheet
    → next_number counting.tally ≤ number_limit
    → place_in counting.journal.center.events (record { batch = batch; number = next_number counting.tally }) ≡ None
    → length counting.journal.center.events < event_limit
    → sheet_acts election batch counting (read_next election counting first second)
    ≡ Append (record_of (Add (record { batch = batch; number = next_number counting.tally }) (sheet_marked sheet)))
    ∷ Write (lines_of election batch (next_number counting.tally) (Added (sheet_marked sheet))) ∷ []

-- a keeper has records of a list more, from its front on: all of them, unless the command broke off
pub record KeepsFront (list : List (List ℕ)) (held held_now : Held) (answer : Answer) : Type 0 where
  pub front : List (List ℕ)
  pub rest : List (List ℕ)
  pub are : list ≡ front ++ rest
  pub kept : Keeps held held_now front
  pub whole : broke_off answer ≡ false → rest ≡ []

-- the header is appended where no record is there
abbrev pub header_if_none : Election → List (List ℕ) → List (List ℕ)
header_if_none election records = if has_none records then header_of election ∷ [] else []

-- a list has a record first
abbrev pub BeginsWith : List ℕ → List (List ℕ) → Type 0
BeginsWith body list = (more : List (List ℕ)) × (list ≡ body ∷ more)

-- the key of the sheet in a place: sheets are numbered from 1
abbrev pub key_at : List ℕ → ℕ → Key
key_at batch place = record { batch = batch; number = place + 1 }

-- a record is of a sheet of the batch that comes before a place
pub record IsOfEarlier (batch : List ℕ) (place : ℕ) (body : List ℕ) : Type 0 where
  pub earlier : ℕ
  pub less : earlier < place
  pub sheet : SheetMarks
  pub is : body ≡ record_of (Add (key_at batch earlier) sheet)

-- Where the sheet's record stands: behind the header, if there was none, and behind the records of sheets before it, at
-- most one of each. It stands there unless the machine was full when the sheet came, with the events that were kept
-- before and those of these records. Of the list so made the keeper has a front, and all of it unless the command broke
-- off. Places are counted from 0.
pub record KeepsSheet (election : Election) (batch : List ℕ) (records : List (List ℕ)) (events : List Event) (place : ℕ)
    (body : List ℕ) (held held_now : Held) (answer : Answer) : Type 0 where
  pub before : List (List ℕ)
  pub behind : List (List ℕ)
  pub few : length before ≤ place
  pub earlier : All (IsOfEarlier batch place) before
  pub stands : length events + length before < event_limit → BeginsWith body behind
  pub kept : KeepsFront (header_if_none election records ++ (before ++ behind)) held held_now answer

-- so a command kept each sheet of two images that fit one, with its marks, where its key is new and its number at most
-- 999,999
abbrev pub KeepsWhatFits : Election → List ℕ → List Page → List (List ℕ) → List Event → Held → Held → Answer → Type 0
KeepsWhatFits election batch images records events held held_now answer =
    (place : ℕ) (first second : Page) (sheet : MarkedSheet)
    → slice_get images (2 * place) ≡ Some first → slice_get images (2 * place + 1) ≡ Some second
    → FitsSheet election first second sheet → place + 1 ≤ number_limit → place_in events (key_at batch place) ≡ None
    → KeepsSheet election batch records events place (record_of (Add (key_at batch place) (sheet_marked sheet))) held held_now answer

-- so `count` keeps the sheets of scans, where the election under a name can be read, its cards can be planned, and the
-- records are a journal with these events
abbrev pub CountKeepsWhatFits : List ℕ → List ℕ → List (List ℕ) → Files → List (List ℕ) → Held → Held → Answer → Type 0
CountKeepsWhatFits name batch scans files records held held_now answer =
    (election : Election) (plans : List CardPlan) (events : List Event)
    → election_in (files name) ≡ Ok election → plans_in election ≡ Ok plans → replay_of election records ≡ Ok events
    → KeepsWhatFits election batch (images_in files 4 scans) records events held held_now answer

-- whatever stands of the acts of `count`, it keeps what fits
abbrev pub FittingSheetsAreKept : Type 0
FittingSheetsAreKept =
    (name batch : List ℕ) (scans : List (List ℕ)) (files : Files) (records : List (List ℕ))
    (taken taken_now : Taken) (held held_now : Held) (answer : Answer)
    → IsDone (count_outcome name batch scans files records) taken taken_now held held_now answer
    → CountKeepsWhatFits name batch scans files records held held_now answer
