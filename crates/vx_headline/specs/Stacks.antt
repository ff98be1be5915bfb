-- Stacks of sheets and their pictures, and what is enough for runs to have counted them: the premises of the headline
-- once more, in other words, so that none of them asks for more.
use Rattle.std.specs.Prelude.{◌≡◌, ◌⊎◌, ◌<◌, ◌≤◌, All, ℕ, ◌+◌, false, List, [], ◌∷◌, ◌++◌, length, sum_by, slice_get, IsOk, Option, Some, None, Ok}
use Rattle.std.specs.List.{flat_map}
use Rattle.vx_io.specs.Outside.{Files}
use Rattle.vx_plane.specs.Plane.{Page}
use Rattle.vx_election_model.specs.declared.election.Election.{Election}
use Rattle.vx_rules.specs.declared.marks.SheetMarks.{SheetMarks}
use Rattle.vx_events.specs.declared.event.Event.{Event}
use Rattle.vx_events.specs.declared.event.Event.TheVariants.{Add, Claim, Release, Decide}
use Rattle.vx_events.specs.declared.key.Key.{Key}
use Rattle.vx_records.specs.Records.{record_of}
use Rattle.vx_pbm.specs.Images.{IsWholePage}
use Rattle.vx_pbm.specs.Raw.{p4_of}
use Rattle.vx_sheet.specs.Events.{number_limit}
use Rattle.vx_sheet.specs.Margin.{FitsSheet, MarkedSheet, sheet_marked}
use Rattle.vx_center.specs.Replies.{event_limit}
use Rattle.vx_center.specs.Sheets.{sheet_in}
use Rattle.vx_command.specs.Acts.{input_limit}
use Rattle.vx_command.specs.Elections.{plans_in}
use Rattle.vx_command.specs.Texts.{broke_off}
use Rattle.vx_journal.specs.Replay.{replay_of}
use Rattle.vx_command_count.specs.Margin.{key_at}
use Rattle.vx_command_center.specs.declared.item.Item.{Item}
use Rattle.vx_command_center.specs.Items.{events_of}
use Rattle.vx_command_center.specs.Outcome.{items_taken}
use Rattle.vx_words.specs.declared.command.Command.TheVariants.{Center, Count, Export}
use Rattle.vx_words.specs.declared.command.ItemWord.{ItemWord}
use Rattle.vx_words.specs.declared.command.ItemWord.TheVariants.{Scan}
use Rattle.vx_app.specs.Journals.{AreRuns, IsRun, Run}
use Rattle.vx_headline.specs.Counted.{AddedBy, CountedBy}
use Rattle.vx_headline.specs.Exported.{IsExport}

-- a sheet with the two pictures that were taken of it
pub record Pictured : Type 0 where
  pub first : Page
  pub second : Page
  pub sheet : MarkedSheet

-- both pictures are whole, and they fit the sheet
pub record ArePictures (election : Election) (one : Pictured) : Type 0 where
  pub first_whole : IsWholePage one.first
  pub second_whole : IsWholePage one.second
  pub fits : FitsSheet election one.first one.second one.sheet

-- the bytes of its pictures, one behind the other
abbrev pub scan_of : Pictured → List ℕ
scan_of one = p4_of one.first ++ p4_of one.second

-- a file has the pictures of a sheet and nothing else
pub record IsScanOf (election : Election) (file : Option (List ℕ)) (one : Pictured) : Type 0 where
  pub pictures : ArePictures election one
  pub is_file : file ≡ Some (scan_of one)
  pub short : length (scan_of one) ≤ input_limit

-- each sheet of a stack has a file of its own, in order; behind these there may be more
abbrev pub AreScansOf : Election → Files → List (List ℕ) → List Pictured → Type 0
AreScansOf election files scans [] = Unit {0}
AreScansOf election files [] (one ∷ stack) = ⊥
AreScansOf election files (scan ∷ scans) (one ∷ stack) =
    IsScanOf election (files scan) one × AreScansOf election files scans stack

-- a `count` of the scans of a stack
pub record CountsStack (election : Election) (batch : List ℕ) (stack : List Pictured) (one : Run) : Type 0 where
  pub name : List ℕ
  pub workers : ℕ
  pub scans : List (List ℕ)
  pub is_count : one.command ≡ Count name batch workers scans
  pub are_scans : AreScansOf election one.files scans stack

-- each sheet of a stack has its pictures
abbrev pub HavePictures : Election → List Pictured → Type 0
HavePictures election [] = Unit {0}
HavePictures election (one ∷ stack) = ArePictures election one × HavePictures election stack

-- a `center` that can take its items, one of which is a scan with a whole stack in one file
pub record CentersStack (election : Election) (batch : List ℕ) (stack : List Pictured) (items : List Item) (one : Run)
    : Type 0 where
  pub name : List ℕ
  pub moment : List ℕ
  pub device : List ℕ
  pub before : List ItemWord
  pub file : List ℕ
  pub behind : List ItemWord
  pub is_center : one.command ≡ Center name moment device (before ++ Scan batch file ∷ behind)
  pub are_items : items_taken election one.files 4 0 (before ++ Scan batch file ∷ behind) ≡ Ok items
  pub is_file : one.files file ≡ Some (flat_map scan_of stack)
  pub pictures : HavePictures election stack

-- records are a journal with these events, none of which adds a sheet under a key; the election's cards can be planned
pub record IsFree (election : Election) (records : List (List ℕ)) (events : List Event) (key : Key) : Type 0 where
  pub planned : IsOk (plans_in election)
  pub replays : replay_of election records ≡ Ok events
  pub free : sheet_in events key ≡ None

-- a record stands behind the header
abbrev pub StandsIn : List (List ℕ) → List ℕ → Type 0
StandsIn [] body = ⊥
StandsIn (header ∷ bodies) body = (n : ℕ) × (slice_get bodies n ≡ Some body)

-- a run kept the record of a sheet, or ended
abbrev pub KeptOrEnded : Run → Key → MarkedSheet → Type 0
KeptOrEnded one key sheet =
    StandsIn one.left (record_of (Add key (sheet_marked sheet))) ⊎ (broke_off one.answer ≡ false)

-- an event adds no sheet under a key, or this one
abbrev pub AddsNoOther : Key → SheetMarks → Event → Type 0
AddsNoOther key sheet (Add other marks) = other ≡ key → marks ≡ sheet
AddsNoOther key sheet (Claim station other) = Unit {0}
AddsNoOther key sheet (Release station other) = Unit {0}
AddsNoOther key sheet (Decide station other contest decision) = Unit {0}

-- whatever runs come before and behind it, a `count` of a stack counted each of its sheets that has a free key and room
abbrev pub StacksAreCounted : Type 0
StacksAreCounted =
    (election : Election) (earlier : List Run) (records : List (List ℕ)) (one : Run) (later : List Run)
    (events : List Event) (batch : List ℕ) (stack : List Pictured) (place : ℕ) (it : Pictured)
    → AreRuns election [] earlier records → CountsStack election batch stack one → slice_get stack place ≡ Some it
    → place < number_limit → IsFree election records events (key_at batch place) → length events + place < event_limit
    → KeptOrEnded one (key_at batch place) it.sheet
    → CountedBy election [] (earlier ++ one ∷ later) (key_at batch place) it.sheet

-- so a `center` did, where no item adds another sheet under the key, and there is room for all events of its items
abbrev pub CentersCountStacks : Type 0
CentersCountStacks =
    (election : Election) (earlier : List Run) (records : List (List ℕ)) (one : Run) (later : List Run)
    (events : List Event) (batch : List ℕ) (stack : List Pictured) (items : List Item) (place : ℕ) (it : Pictured)
    → AreRuns election [] earlier records → CentersStack election batch stack items one
    → slice_get stack place ≡ Some it → place < number_limit → IsFree election records events (key_at batch place)
    → All (λ (item : Item). All (AddsNoOther (key_at batch place) (sheet_marked it.sheet)) (events_of election item))
    items
    → length events + sum_by (λ (item : Item). length (events_of election item)) items ≤ event_limit
    → KeptOrEnded one (key_at batch place) it.sheet
    → CountedBy election [] (earlier ++ one ∷ later) (key_at batch place) it.sheet

-- and so two runs of `count` did of one stack, the first of which may have broken off anywhere
abbrev pub StacksAreRecounted : Type 0
StacksAreRecounted =
    (election : Election) (earlier : List Run) (records : List (List ℕ)) (one again : Run) (later : List Run)
    (events : List Event) (batch : List ℕ) (stack : List Pictured) (place : ℕ) (it : Pictured)
    → AreRuns election [] earlier records → IsRun election records one
    → CountsStack election batch stack one → CountsStack election batch stack again → slice_get stack place ≡ Some it
    → place < number_limit → IsFree election records events (key_at batch place)
    → length one.left + place ≤ event_limit → broke_off again.answer ≡ false
    → CountedBy election [] (earlier ++ one ∷ again ∷ later) (key_at batch place) it.sheet

-- a sheet that was there behind the earlier of some runs was added by them
abbrev pub KeptSheetsWereAdded : Type 0
KeptSheetsWereAdded =
    (election : Election) (earlier : List Run) (records : List (List ℕ)) (later : List Run) (events : List Event)
    (key : Key) (sheet : SheetMarks)
    → AreRuns election [] earlier records → replay_of election records ≡ Ok events → sheet_in events key ≡ Some sheet
    → AddedBy election [] (earlier ++ later) key sheet

-- whatever runs come before it, an `export` that ended well is one of which the headline speaks
abbrev pub EndedExportsAreExports : Type 0
EndedExportsAreExports =
    (election : Election) (runs : List Run) (left : List (List ℕ)) (last : Run) (name moment device : List ℕ)
    → AreRuns election [] runs left → IsRun election left last
    → last.command ≡ Export name moment device → last.answer ≡ Ok tt
    → IsExport election runs left last moment device
