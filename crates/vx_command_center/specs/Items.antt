-- Items: the events that each calls the center with, and the lines of its sheets without an event.
use Rattle.std.specs.Prelude.{◌≡◌, ℕ, ◌/◌, All, true, List, [], length, map, sum, None}
use Rattle.vx_election_model.specs.declared.election.Election.{Election}
use Rattle.vx_events.specs.declared.event.Event.{Event}
use Rattle.vx_events.specs.Fits.{Fits, is_batch}
use Rattle.vx_pbm.specs.Images.{images_of}
use Rattle.vx_command_center.specs.declared.item.Item.{Item}
use Rattle.vx_command_center.specs.declared.item.Item.TheVariants.{Script, Scan}
use Rattle.vx_command_center.specs.Sheets.{events_in, lines_in}

-- a script's events; of a scan the Adds of its sheets that read and pair, numbered from 1
abbrev pub events_of : Election → Item → List Event
events_of election (Script events) = events
events_of election (Scan batch bytes sheets) = events_in election batch (images_of bytes).pages

-- the lines of a scan's other sheets
abbrev pub lines_of_item : Election → Item → List ℕ
lines_of_item election (Script events) = []
lines_of_item election (Scan batch bytes sheets) = lines_in election batch (images_of bytes).pages

-- how many events an item may have: a script's, and one for each two images of a scan
abbrev pub possible_of : Item → ℕ
possible_of (Script events) = length events
possible_of (Scan batch bytes sheets) = sheets

-- what is taken of a scan: its batch may be one, its bytes leave the grammar of bitmaps nowhere, and it has so many
-- sheets of two images
pub record IsScan (batch bytes : List ℕ) (sheets : ℕ) : Type 0 where
  pub batch_is : is_batch batch ≡ true
  pub whole : (images_of bytes).fault ≡ None
  pub sheets_are : sheets ≡ length (images_of bytes).pages / 2

-- an item that may be done at a center of an election
abbrev pub FitsItem : Election → Item → Type 0
FitsItem election (Script events) = All (Fits election) events
FitsItem election (Scan batch bytes sheets) = IsScan batch bytes sheets

-- how many events items may have
abbrev pub possible_in_all : List Item → ℕ
possible_in_all items = sum (map possible_of items)
