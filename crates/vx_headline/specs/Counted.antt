-- Sheets that runs counted: which pages, with which marks, under which key. A run is of `count`, or of `center`.
use Rattle.std.specs.Prelude.{◌≡◌, ◌⊎◌, ◌<◌, ◌≤◌, ℕ, ◌+◌, ◌*◌, false, List, [], ◌∷◌, length, slice_get, IsOk, Some, None, Ok}
use Rattle.vx_plane.specs.Plane.{Page}
use Rattle.vx_election_model.specs.declared.election.Election.{Election}
use Rattle.vx_rules.specs.declared.marks.SheetMarks.{SheetMarks}
use Rattle.vx_events.specs.declared.event.Event.{Event}
use Rattle.vx_events.specs.declared.event.Event.TheVariants.{Add}
use Rattle.vx_events.specs.declared.key.Key.{Key}
use Rattle.vx_records.specs.Records.{record_of}
use Rattle.vx_pbm.specs.Images.{images_of}
use Rattle.vx_sheet.specs.Events.{number_limit}
use Rattle.vx_sheet.specs.Margin.{FitsSheet, MarkedSheet, sheet_marked}
use Rattle.vx_center.specs.Replies.{event_limit}
use Rattle.vx_center.specs.Sheets.{place_in, sheet_in}
use Rattle.vx_command.specs.Elections.{plans_in}
use Rattle.vx_command.specs.Images.{images_in}
use Rattle.vx_command.specs.Texts.{broke_off}
use Rattle.vx_journal.specs.Replay.{replay_of}
use Rattle.vx_command_count.specs.Margin.{key_at}
use Rattle.vx_command_center.specs.declared.item.Item.{Item}
use Rattle.vx_command_center.specs.Items.{events_of}
use Rattle.vx_command_center.specs.Outcome.{items_taken}
use Rattle.vx_words.specs.declared.command.Command.TheVariants.{Center, Count}
use Rattle.vx_words.specs.declared.command.ItemWord.{ItemWord}
use Rattle.vx_words.specs.declared.command.ItemWord.TheVariants.{Scan}
use Rattle.vx_app.specs.Journals.{Run}

-- the sheet in a place among images, counted from 0: the two images there fit the facing pages of a card as they were
-- printed and marked, its number is at most 999,999, and the key is its batch and that number
pub record IsPictured (election : Election) (images : List Page) (batch : List ℕ) (place : ℕ) (key : Key)
    (sheet : MarkedSheet) : Type 0 where
  pub key_is : key ≡ key_at batch place
  pub first : Page
  pub second : Page
  pub first_is : slice_get images (2 * place) ≡ Some first
  pub second_is : slice_get images (2 * place + 1) ≡ Some second
  pub fits : FitsSheet election first second sheet
  pub numbered : place + 1 ≤ number_limit

-- the sheet in a place of a `count`'s scans
pub record IsScanned (election : Election) (one : Run) (key : Key) (sheet : MarkedSheet) (place : ℕ) : Type 0 where
  pub name : List ℕ
  pub batch : List ℕ
  pub workers : ℕ
  pub scans : List (List ℕ)
  pub is_count : one.command ≡ Count name batch workers scans
  pub pictured : IsPictured election (images_in one.files 4 scans) batch place key sheet

-- the sheet in a place of a scan that a word `scan:BATCH:FILE` of a `center` names, whose items can be taken
pub record IsItemOf (election : Election) (one : Run) (key : Key) (sheet : MarkedSheet) (items : List Item)
    : Type 0 where
  pub name : List ℕ
  pub moment : List ℕ
  pub device : List ℕ
  pub words : List ItemWord
  pub is_center : one.command ≡ Center name moment device words
  pub are_items : items_taken election one.files 4 0 words ≡ Ok items
  pub item : ℕ
  pub batch : List ℕ
  pub file : List ℕ
  pub bytes : List ℕ
  pub is_scan : slice_get words item ≡ Some (Scan batch file)
  pub is_file : one.files file ≡ Some bytes
  pub place : ℕ
  pub pictured : IsPictured election (images_of bytes).pages batch place key sheet

-- records are a journal of an election whose cards can be planned, and no event that it keeps adds a sheet under a key
pub record IsNew (election : Election) (records : List (List ℕ)) (events : List Event) (key : Key) : Type 0 where
  pub planned : IsOk (plans_in election)
  pub replays : replay_of election records ≡ Ok events
  pub new : place_in events key ≡ None

-- the record of a sheet stands among records, behind the first
pub record HasRecord (records : List (List ℕ)) (key : Key) (sheet : MarkedSheet) : Type 0 where
  pub before : ℕ
  pub stands : slice_get records (before + 1) ≡ Some (record_of (Add key (sheet_marked sheet)))

-- a run came to a sheet: it didn't break off, or not before that sheet's record
abbrev pub CameTo : Run → Key → MarkedSheet → Type 0
CameTo one key sheet = (broke_off one.answer ≡ false) ⊎ HasRecord one.left key sheet

-- a `count` counted a sheet over records: the key is new, there is room for each sheet up to this one, and the run came
-- to it
pub record Counts (election : Election) (records : List (List ℕ)) (one : Run) (key : Key) (sheet : MarkedSheet)
    : Type 0 where
  pub place : ℕ
  pub scanned : IsScanned election one key sheet place
  pub before : List Event
  pub is_new : IsNew election records before key
  pub room : length before + place < event_limit
  pub came : CameTo one key sheet

-- how many events items have
abbrev pub events_in_all : Election → List Item → ℕ
events_in_all election [] = 0
events_in_all election (item ∷ items) = length (events_of election item) + events_in_all election items

-- no item adds another sheet under a key
abbrev pub AddNoOther : Election → List Item → Key → MarkedSheet → Type 0
AddNoOther election items key sheet =
    (place n : ℕ) (item : Item) (other : SheetMarks)
    → slice_get items place ≡ Some item → slice_get (events_of election item) n ≡ Some (Add key other)
    → other ≡ sheet_marked sheet

-- a `center` counted a sheet over records: the key is new and no item adds another sheet under it, there is room for
-- all events of the items, and the run came to the sheet; in whichever order the items' events came
pub record CenterCounts (election : Election) (records : List (List ℕ)) (one : Run) (key : Key) (sheet : MarkedSheet)
    : Type 0 where
  pub items : List Item
  pub is_item : IsItemOf election one key sheet items
  pub before : List Event
  pub is_new : IsNew election records before key
  pub no_other : AddNoOther election items key sheet
  pub room : length before + events_in_all election items ≤ event_limit
  pub came : CameTo one key sheet

-- a `count` scanned a sheet over records, and directly behind it another `count` scanned it again under the same key,
-- as the same command on the same files does. The first may have broken off anywhere, the second didn't, and had room
pub record Recounts (election : Election) (records : List (List ℕ)) (one : Run) (runs : List Run) (key : Key)
    (sheet : MarkedSheet) : Type 0 where
  pub place : ℕ
  pub scanned : IsScanned election one key sheet place
  pub again : Run
  pub further : List Run
  pub are : runs ≡ again ∷ further
  pub scanned_again : IsScanned election again key sheet place
  pub before : List Event
  pub is_new : IsNew election records before key
  pub after : List Event
  pub replays_after : replay_of election one.left ≡ Ok after
  pub room : length after + place < event_limit
  pub whole : broke_off again.answer ≡ false

-- one of these runs counted it, the first of which is over records; or two of them did
abbrev pub CountedBy : Election → List (List ℕ) → List Run → Key → MarkedSheet → Type 0
CountedBy election records [] key sheet = ⊥
CountedBy election records (one ∷ runs) key sheet =
    ((Counts election records one key sheet ⊎ CenterCounts election records one key sheet)
    ⊎ Recounts election records one runs key sheet)
    ⊎ CountedBy election one.left runs key sheet

-- records are a journal that keeps a sheet under a key
pub record HasSheet (election : Election) (records : List (List ℕ)) (key : Key) (sheet : SheetMarks) : Type 0 where
  pub events : List Event
  pub are_kept : replay_of election records ≡ Ok events
  pub there : sheet_in events key ≡ Some sheet

-- so they were before one of these runs, or are behind the last
abbrev pub AddedBy : Election → List (List ℕ) → List Run → Key → SheetMarks → Type 0
AddedBy election records [] key sheet = HasSheet election records key sheet
AddedBy election records (one ∷ runs) key sheet =
    HasSheet election records key sheet ⊎ AddedBy election one.left runs key sheet
