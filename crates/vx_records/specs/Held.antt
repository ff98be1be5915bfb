-- The events that a journal keeps, whatever the election is.
use Rattle.std.specs.Prelude.{◌≡◌, ◌≤◌, ℕ, ◌%◌, ◌&&◌, ◌==◌, Bool, true, List, length, nat_lt}
use Rattle.std.specs.List.{list_all}
use Rattle.std.specs.Str.{IsUtf8}
use Rattle.vx_json.specs.Reading.{is_within}
use Rattle.vx_rules.specs.declared.marks.ContestMarks.{ContestMarks}
use Rattle.vx_rules.specs.declared.marks.SheetMarks.{SheetMarks}
use Rattle.vx_events.specs.declared.decision.Decision.{Decision}
use Rattle.vx_events.specs.declared.decision.Decision.TheVariants.{Selections, RuledOvervote, AcceptRead, NameWriteIn}
use Rattle.vx_events.specs.declared.decision.WriteInName.{WriteInName}
use Rattle.vx_events.specs.declared.decision.WriteInName.TheVariants.{Words, Candidate}
use Rattle.vx_events.specs.declared.event.Event.{Event}
use Rattle.vx_events.specs.declared.event.Event.TheVariants.{Add, Claim, Release, Decide}
use Rattle.vx_events.specs.Ascending.{is_ascending}
use Rattle.vx_events.specs.Fits.{contests_of, is_decision, is_key, is_station}
use Rattle.vx_records.specs.Records.{record_of}

-- a contest below 500 with 1 to 150 states
abbrev pub is_marked : ContestMarks → Bool
is_marked marks = nat_lt marks.contest 500 && is_within 1 150 (length marks.states)

-- a card below 1,024 and an odd front below 64, with contests that ascend
abbrev pub is_held_sheet : SheetMarks → Bool
is_held_sheet sheet =
    nat_lt sheet.card 1024
    && (sheet.front % 2 == 1) && nat_lt sheet.front 64
    && is_ascending (contests_of sheet.contests) && list_all is_marked sheet.contests

-- every number of the event is in its range
abbrev pub is_in_range : Event → Bool
is_in_range (Add key sheet) = is_key key && is_held_sheet sheet
is_in_range (Claim station key) = is_station station && is_key key
is_in_range (Release station key) = is_station station && is_key key
is_in_range (Decide station key contest decision) =
    is_station station && is_key key && nat_lt contest 500 && is_decision decision

-- words that are written in are UTF-8
abbrev pub HasWords : WriteInName → Type 0
HasWords (Words words) = IsUtf8 words
HasWords (Candidate number) = Unit {0}

abbrev pub DecidesWords : Decision → Type 0
DecidesWords (Selections options) = Unit {0}
DecidesWords RuledOvervote = Unit {0}
DecidesWords AcceptRead = Unit {0}
DecidesWords (NameWriteIn slot name) = HasWords name

abbrev pub IsWritten : Event → Type 0
IsWritten (Add key sheet) = Unit {0}
IsWritten (Claim station key) = Unit {0}
IsWritten (Release station key) = Unit {0}
IsWritten (Decide station key contest decision) = DecidesWords decision

-- an event that has a record: in the ranges of the format, and of at most 16,384 bytes
pub record IsHeld (event : Event) : Type 0 where
  pub in_range : is_in_range event ≡ true
  pub written : IsWritten event
  pub short : length (record_of event) ≤ 16384
