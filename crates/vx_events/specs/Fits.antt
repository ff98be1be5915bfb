-- Which events fit an election. The kept events have no part in it.
use Rattle.std.specs.Prelude.{◌≡◌, ℕ, ◌%◌, ◌&&◌, ◌||◌, ◌==◌, Bool, true, false, not, List, length, map, nat_le, nat_lt, slice_get, Option, Some, None}
use Rattle.std.specs.List.{list_all}
use Rattle.vx_json.specs.Reading.{is_within}
use Rattle.vx_election_model.specs.declared.contest.Contest.{Contest}
use Rattle.vx_election_model.specs.declared.election.Election.{Election}
use Rattle.vx_election_model.specs.Options.{options_of}
use Rattle.vx_election_model.specs.Lists.{card_count}
use Rattle.vx_rules.specs.declared.marks.ContestMarks.{ContestMarks}
use Rattle.vx_rules.specs.declared.marks.SheetMarks.{SheetMarks}
use Rattle.vx_events.specs.declared.decision.Decision.{Decision}
use Rattle.vx_events.specs.declared.decision.Decision.TheVariants.{Selections, RuledOvervote, AcceptRead, NameWriteIn}
use Rattle.vx_events.specs.declared.decision.WriteInName.{WriteInName}
use Rattle.vx_events.specs.declared.decision.WriteInName.TheVariants.{Words, Candidate}
use Rattle.vx_events.specs.declared.event.Event.{Event}
use Rattle.vx_events.specs.declared.event.Event.TheVariants.{Add, Claim, Release, Decide}
use Rattle.vx_events.specs.declared.key.Key.{Key}
use Rattle.vx_events.specs.Ascending.{is_ascending}

-- one of A-Z a-z 0-9 _ -
abbrev pub is_batch_character : ℕ → Bool
is_batch_character b = is_within 65 90 b || is_within 97 122 b || is_within 48 57 b || b == 95 || b == 45

-- a batch has 1 to 32 of these characters
abbrev pub is_batch : List ℕ → Bool
is_batch batch = is_within 1 32 (length batch) && list_all is_batch_character batch

-- a batch, and a number from 1 to 999,999
abbrev pub is_key : Key → Bool
is_key key = is_batch key.batch && is_within 1 999999 key.number

-- a station is 1 to 9,999
abbrev pub is_station : ℕ → Bool
is_station station = is_within 1 9999 station

-- a contest of the election has so many options
abbrev pub has_options : Option Contest → ℕ → Bool
has_options None count = false
has_options (Some contest) count = options_of contest == count

-- a contest was read that is one of the election's, with a state for each of its options
abbrev pub is_read : Election → ContestMarks → Bool
is_read election marks = has_options (slice_get election.contests marks.contest) (length marks.states)

-- the contests that were read, by their places in the election's list
abbrev pub contests_of : List ContestMarks → List ℕ
contests_of list = map (λ marks. marks.contest) list

-- a sheet is the front and the back of one of the election's cards; its contests ascend
abbrev pub is_sheet : Election → SheetMarks → Bool
is_sheet election sheet =
    nat_lt sheet.card (card_count election.styles)
    && (sheet.front % 2 == 1) && nat_lt sheet.front 64
    && is_ascending (contests_of sheet.contests) && list_all (is_read election) sheet.contests

-- no control character, U+0000 to U+001F or U+007F; in UTF-8 each of them is one byte
abbrev pub is_name_byte : ℕ → Bool
is_name_byte b = nat_le 32 b && not (b == 127)

-- a text name has 1 to 256 bytes without control characters; a candidate's number is below 1,000
abbrev pub is_name : WriteInName → Bool
is_name (Words words) = is_within 1 256 (length words) && list_all is_name_byte words
is_name (Candidate number) = nat_lt number 1000

-- options ascend and are below 1,000, and so is a slot
abbrev pub is_decision : Decision → Bool
is_decision (Selections options) = is_ascending options && list_all (λ option. nat_lt option 1000) options
is_decision RuledOvervote = true
is_decision AcceptRead = true
is_decision (NameWriteIn slot name) = nat_lt slot 1000 && is_name name

-- keys and stations are in range; a sheet is of the election; a contest is below 500, and what is
-- decided of it is in range
abbrev pub fits : Election → Event → Bool
fits election (Add key sheet) = is_key key && is_sheet election sheet
fits election (Claim station key) = is_station station && is_key key
fits election (Release station key) = is_station station && is_key key
fits election (Decide station key contest decision) =
    is_station station && is_key key && nat_lt contest 500 && is_decision decision

-- an event that fits the election
abbrev pub Fits : Election → Event → Type 0
Fits election event = fits election event ≡ true
