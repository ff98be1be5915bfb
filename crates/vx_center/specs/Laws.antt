-- What holds over whole runs of the counting machine.
use Rattle.std.specs.Prelude.{◌≡◌, ◌⊎◌, ℕ, ◌+◌, true, false, List, [], ◌∷◌, ◌++◌, filter, length, take, slice_get, Some, None}
use Rattle.vx_election_model.specs.declared.election.Election.{Election}
use Rattle.vx_rules.specs.declared.marks.ContestMarks.{ContestMarks}
use Rattle.vx_rules.specs.declared.marks.SheetMarks.{SheetMarks}
use Rattle.vx_events.specs.declared.decision.Decision.{Decision}
use Rattle.vx_events.specs.declared.event.Event.{Event}
use Rattle.vx_events.specs.declared.event.Event.TheVariants.{Add, Claim, Release, Decide}
use Rattle.vx_events.specs.declared.key.Key.{Key}
use Rattle.vx_events.specs.Fits.{is_key, is_sheet}
use Rattle.vx_refusals.specs.declared.reply.Reply.{Reply}
use Rattle.vx_refusals.specs.declared.reply.Reply.TheVariants.{Done}
use Rattle.vx_center.specs.Sheets.{Added, added_from, has_key, same_key, sheet_in, sheets_in}
use Rattle.vx_center.specs.Holders.{holder_of}
use Rattle.vx_center.specs.Replies.{is_done, next_of}
use Rattle.vx_center.specs.Waiting.{exports}
use Rattle.vx_center.specs.Histories.{IsHistory}
use Rattle.vx_center.specs.Shown.{ShowsWhatWasKept}

-- a sheet that was added is neither changed nor lost, whatever event comes
abbrev pub SheetsStay : Type 0
SheetsStay =
    (election : Election) (kept : List Event) (event : Event) (key : Key) (sheet : SheetMarks)
    → sheet_in kept key ≡ Some sheet → sheet_in (next_of election kept event) key ≡ Some sheet

-- no two sheets of a history have one key
abbrev pub SheetsHaveOwnKeys : Type 0
SheetsHaveOwnKeys =
    (election : Election) (kept : List Event) (place further : ℕ) (one other : Added)
    → IsHistory election kept → slice_get (sheets_in kept) place ≡ Some one
    → slice_get (sheets_in kept) further ≡ Some other → one.key ≡ other.key → one ≡ other

-- nor have two places of the list of added sheets one key
abbrev pub SheetsHaveOwnPlaces : Type 0
SheetsHaveOwnPlaces =
    (election : Election) (kept : List Event) (place further : ℕ) (one other : Added)
    → IsHistory election kept → slice_get (sheets_in kept) place ≡ Some one
    → slice_get (sheets_in kept) further ≡ Some other → one.key ≡ other.key → place ≡ further

-- a contest that is exported stays exported, whatever event comes
abbrev pub ExportsStay : Type 0
ExportsStay =
    (election : Election) (kept : List Event) (event : Event) (added : Added) (marks : ContestMarks)
    → exports election kept added marks ≡ true → exports election (next_of election kept event) added marks ≡ true

-- a station is given a sheet only while no other holds it: so one at most holds it at a time
abbrev pub ClaimsAreFree : Type 0
ClaimsAreFree =
    (election : Election) (kept : List Event) (place station : ℕ) (key : Key)
    → IsHistory election kept → slice_get kept place ≡ Some (Claim station key)
    → (holder_of (take place kept) key ≡ None) ⊎ (holder_of (take place kept) key ≡ Some station)

-- a sheet is given back only by the station that holds it
abbrev pub ReleasesAreTheHolders : Type 0
ReleasesAreTheHolders =
    (election : Election) (kept : List Event) (place station : ℕ) (key : Key)
    → IsHistory election kept → slice_get kept place ≡ Some (Release station key)
    → holder_of (take place kept) key ≡ Some station

-- a decision counts only from the station that holds the sheet
abbrev pub DecisionsAreTheHolders : Type 0
DecisionsAreTheHolders =
    (election : Election) (kept : List Event) (place station contest : ℕ) (key : Key) (decision : Decision)
    → IsHistory election kept → slice_get kept place ≡ Some (Decide station key contest decision)
    → holder_of (take place kept) key ≡ Some station

-- an export of any history shows what was kept
abbrev pub HistoriesAreShown : Type 0
HistoriesAreShown = (election : Election) (kept : List Event) → IsHistory election kept → ShowsWhatWasKept election kept

-- which answers keep their event
pub record RepliesAreDoneOrRefuse : Type 0 where
  pub done : (reply : Reply) → is_done reply ≡ true → reply ≡ Done
  pub refused : (reply : Reply) → (reply ≡ Done → ⊥) → is_done reply ≡ false

-- more events add their sheets behind
abbrev pub SheetsComeInOrder : Type 0
SheetsComeInOrder =
    (place : ℕ) (events more : List Event)
    → added_from place (events ++ more) ≡ added_from place events ++ added_from (place + length events) more

-- a sheet that is found is found whatever events come behind
abbrev pub FoundSheetsStay : Type 0
FoundSheetsStay =
    (events more : List Event) (key : Key) (sheet : SheetMarks)
    → sheet_in events key ≡ Some sheet → sheet_in (events ++ more) key ≡ Some sheet

-- two keys that are the same are equal
abbrev pub SameKeysAreEqual : Type 0
SameKeysAreEqual = (one other : Key) → same_key one other ≡ true → one ≡ other

-- the sheet that an event of a history adds is the only one of its key
abbrev pub AddedSheetsAreAlone : Type 0
AddedSheetsAreAlone =
    (election : Election) (before more : List Event) (key : Key) (sheet : SheetMarks) (kept : List Event)
    → kept ≡ before ++ Add key sheet ∷ more → IsHistory election kept
    → filter (has_key key) (sheets_in kept) ≡ record { at = length before; key = key; sheet = sheet } ∷ []

-- a sheet that an event of a history adds has a key in range and is one of the election's
pub record AddedFits (election : Election) (added : Added) : Type 0 where
  pub key : is_key added.key ≡ true
  pub sheet : is_sheet election added.sheet ≡ true

abbrev pub AddedSheetsFit : Type 0
AddedSheetsFit =
    (election : Election) (kept : List Event) (place : ℕ) (added : Added)
    → IsHistory election kept → slice_get (sheets_in kept) place ≡ Some added → AddedFits election added
