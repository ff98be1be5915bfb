-- What `center` adds of scans that fit printed pages: where the two images of a sheet fit the front and the back of a card,
-- its Add stands among the events of its item, with the marks of both pages, whatever the machine replies to it.
use Rattle.std.specs.Prelude.{◌≡◌, ◌<◌, ◌≤◌, ◌+◌, ◌*◌, All, ℕ, List, ◌∷◌, ◌++◌, slice_get, Some, Ok}
use Rattle.vx_plane.specs.Plane.{Page}
use Rattle.vx_election_model.specs.declared.election.Election.{Election}
use Rattle.vx_events.specs.declared.event.Event.{Event}
use Rattle.vx_events.specs.declared.event.Event.TheVariants.{Add}
use Rattle.vx_io.specs.Outside.{Files}
use Rattle.vx_pbm.specs.Images.{images_of}
use Rattle.vx_rules.specs.declared.marks.SheetMarks.{SheetMarks}
use Rattle.vx_words.specs.declared.command.ItemWord.{ItemWord}
use Rattle.vx_command.specs.Elections.{election_in}
use Rattle.vx_sheet.specs.Events.{number_limit}
use Rattle.vx_sheet.specs.Margin.{FitsSheet, MarkedSheet, sheet_marked}
use Rattle.vx_command_count.specs.Margin.{key_at}
use Rattle.vx_command_center.specs.declared.item.Item.{Item}
use Rattle.vx_command_center.specs.declared.item.Item.TheVariants.{Script, Scan}
use Rattle.vx_command_center.specs.Items.{events_of}
use Rattle.vx_command_center.specs.Outcome.{items_taken}

-- an event adds a sheet of a batch that comes before a place, or one that comes behind it; places are counted from 0
pub record AddsEarlier (batch : List ℕ) (place : ℕ) (event : Event) : Type 0 where
  pub earlier : ℕ
  pub less : earlier < place
  pub sheet : SheetMarks
  pub is : event ≡ Add (key_at batch earlier) sheet

pub record AddsLater (batch : List ℕ) (place : ℕ) (event : Event) : Type 0 where
  pub later : ℕ
  pub more : place < later
  pub sheet : SheetMarks
  pub is : event ≡ Add (key_at batch later) sheet

-- among events one adds the sheet in a place of a batch; all others add sheets before or behind it
pub record AddsSheet (batch : List ℕ) (place : ℕ) (sheet : SheetMarks) (events : List Event) : Type 0 where
  pub before : List Event
  pub behind : List Event
  pub earlier : All (AddsEarlier batch place) before
  pub later : All (AddsLater batch place) behind
  pub are : events ≡ before ++ Add (key_at batch place) sheet ∷ behind

-- so of each sheet of a scan of two images that fit one, whose number is at most 999,999
abbrev pub AddsWhatFits : Election → Item → Type 0
AddsWhatFits election (Script events) = Unit {0}
AddsWhatFits election (Scan batch bytes sheets) =
    (place : ℕ) (first second : Page) (sheet : MarkedSheet)
    → slice_get (images_of bytes).pages (2 * place) ≡ Some first → slice_get (images_of bytes).pages (2 * place + 1) ≡ Some second
    → FitsSheet election first second sheet → place + 1 ≤ number_limit
    → AddsSheet batch place (sheet_marked sheet) (events_of election (Scan batch bytes sheets))

-- so of the items of a `center`, where its election can be read and they can be taken
abbrev pub CenterAddsWhatFits : List ℕ → List ItemWord → Files → Type 0
CenterAddsWhatFits name words files =
    (election : Election) (items : List Item)
    → election_in (files name) ≡ Ok election → items_taken election files 4 0 words ≡ Ok items → All (AddsWhatFits election) items

-- so it is of every `center`
abbrev pub FittingSheetsAreInTheirItems : Type 0
FittingSheetsAreInTheirItems =
    (name : List ℕ) (words : List ItemWord) (files : Files) → CenterAddsWhatFits name words files
