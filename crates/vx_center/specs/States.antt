-- What a center keeps beside the events, so that no call looks through them.
use Rattle.std.specs.Prelude.{◌≡◌, ℕ, ◌-◌, Bool, true, false, List, [], ◌++◌, length, map, replicate, slice_get, Option, Some, None}
use Rattle.vx_election_model.specs.declared.election.Election.{Election}
use Rattle.vx_election_model.specs.Valid.{IsValid}
use Rattle.vx_rules.specs.declared.marks.SheetMarks.{SheetMarks}
use Rattle.vx_events.specs.declared.event.Event.{Event}
use Rattle.vx_events.specs.declared.event.Event.TheVariants.{Add, Claim, Release, Decide}
use Rattle.vx_events.specs.Fits.{is_sheet}
use Rattle.vx_events.specs.declared.key.Key.{Key}
use Rattle.vx_center.specs.declared.decided.Decided.{Decided}
use Rattle.vx_center.specs.declared.name.SheetName.{SheetName}
use Rattle.vx_center.specs.Sheets.{Added, sheets_in, place_in, sheet_in}
use Rattle.vx_center.specs.Holders.{holder_of}
use Rattle.vx_center.specs.Decisions.{decided_of}
use Rattle.vx_center.specs.Histories.{IsHistory}

-- a batch, with zeros up to 32 bytes
abbrev pub padded : List ℕ → List ℕ
padded batch = batch ++ replicate (32 - length batch) 0

-- a key as one value of a fixed size
abbrev pub name_of_key : Key → SheetName
name_of_key key = record { batch = padded key.batch; size = length key.batch; number = key.number }

-- what is kept of a sheet: the place of its event, who holds it, what was decided of it
pub record Entry : Type 0 where
  pub at : ℕ
  pub holder : Option ℕ
  pub decided : List Decided

-- what the kept events say of a sheet
abbrev pub entry_of : List Event → Added → Entry
entry_of kept added =
    record { at = added.at; holder = holder_of kept added.key; decided = decided_of kept added.key }

-- the same beside the sheet's name
abbrev pub named_entry : List Event → Added → SheetName × Entry
named_entry kept added = (name_of_key added.key, entry_of kept added)

-- of a sheet that wasn't added nothing is known
pub record IsQuiet (kept : List Event) (key : Key) : Type 0 where
  pub free : holder_of kept key ≡ None
  pub undecided : decided_of kept key ≡ []

-- the events are a history of a valid election, and what is kept beside them is what they say
pub record IsKept (election : Election) (kept : List Event) (beside : List (SheetName × Entry)) : Type 0 where
  pub valid : IsValid election
  pub history : IsHistory election kept
  pub entries : beside ≡ map (named_entry kept) (sheets_in kept)
  pub own : (place : ℕ) (added : Added) → slice_get (sheets_in kept) place ≡ Some added
      → place_in kept added.key ≡ Some place
  pub quiet : (key : Key) → place_in kept key ≡ None → IsQuiet kept key

-- a sheet that was added with a key, as it is found: it fits the election, and its entry says who holds
-- it and what was decided of it
pub record IsFound (election : Election) (kept : List Event) (key : Key) (sheet : SheetMarks) (entry : Entry)
    : Type 0 where
  pub there : sheet_in kept key ≡ Some sheet
  pub fits : is_sheet election sheet ≡ true
  pub held : holder_of kept key ≡ entry.holder
  pub ruled : decided_of kept key ≡ entry.decided

-- a sheet that wasn't added isn't found, nobody holds it, and nothing was decided of it
pub record IsUnknown (kept : List Event) (key : Key) : Type 0 where
  pub missing : sheet_in kept key ≡ None
  pub free : holder_of kept key ≡ None
  pub undecided : decided_of kept key ≡ []

-- the sheet at a place in the order of adding, as it is found
pub record IsAt (election : Election) (kept : List Event) (place : ℕ) (key : Key) (sheet : SheetMarks) (entry : Entry)
    : Type 0 where
  pub added : Added
  pub there : slice_get (sheets_in kept) place ≡ Some added
  pub keyed : added.key ≡ key
  pub read : added.sheet ≡ sheet
  pub known : entry_of kept added ≡ entry
  pub fits : is_sheet election sheet ≡ true

-- whether an event adds a sheet
abbrev pub is_add : Event → Bool
is_add (Add key sheet) = true
is_add (Claim station key) = false
is_add (Release station key) = false
is_add (Decide station key contest decision) = false

-- an event gives the sheet with a key to a station, or frees it
abbrev pub HandsTo : Event → Key → Option ℕ → Type 0
HandsTo (Add other sheet) key holder = ⊥
HandsTo (Claim station other) key holder = (other ≡ key) × (holder ≡ Some station)
HandsTo (Release station other) key holder = (other ≡ key) × (holder ≡ None)
HandsTo (Decide station other contest decision) key holder = ⊥
