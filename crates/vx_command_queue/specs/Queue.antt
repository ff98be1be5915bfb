-- What `queue` writes: a line for each contest that waits for a decision, in order, and then how many they are.
use Rattle.std.specs.Prelude.{ℕ, Bool, true, false, if◌then◌else◌, List, [], ◌∷◌, ◌++◌, length, map, codes, slice_get, Option, Some, None}
use Rattle.std.specs.List.{concat, filter, flat_map}
use Rattle.std.specs.Fmt.{decimal}
use Rattle.vx_election_model.specs.declared.contest.Contest.{Contest}
use Rattle.vx_election_model.specs.declared.election.Election.{Election}
use Rattle.vx_election_model.specs.declared.reason.Reason.{Reason}
use Rattle.vx_election_model.specs.declared.reason.Reason.TheVariants.{Overvote, Undervote, MarginalMark, BlankBallot, WriteIn}
use Rattle.vx_election_model.specs.declared.reason.ReasonSet.{ReasonSet}
use Rattle.vx_election_model.specs.Reasons.{has_reason}
use Rattle.vx_rules.specs.declared.marks.ContestMarks.{ContestMarks}
use Rattle.vx_rules.specs.declared.marks.SheetMarks.{SheetMarks}
use Rattle.vx_rules.specs.Reasons.{is_blank_sheet, reason_word, reasons_of}
use Rattle.vx_events.specs.declared.event.Event.{Event}
use Rattle.vx_events.specs.declared.key.Key.{Key}
use Rattle.vx_center.specs.Sheets.{Added, sheets_in}
use Rattle.vx_center.specs.Holders.{holder_of}
use Rattle.vx_center.specs.Decisions.{decided_of}
use Rattle.vx_center.specs.Waiting.{exports_by}

-- words as a line: a blank between two of them, and a line end
abbrev pub line_of : List (List ℕ) → List ℕ
line_of [] = 10 ∷ []
line_of (word ∷ []) = word ++ 10 ∷ []
line_of (word ∷ words) = word ++ 32 ∷ line_of words

-- all reasons, in their order
abbrev pub all_reasons : List Reason
all_reasons = Overvote ∷ Undervote ∷ MarginalMark ∷ BlankBallot ∷ WriteIn ∷ []

-- words with commas between
abbrev pub with_commas : List (List ℕ) → List ℕ
with_commas [] = []
with_commas (word ∷ words) = word ++ flat_map (λ other. 44 ∷ other) words

-- a word as it follows others, or as the first
abbrev pub further : Bool → List ℕ → List ℕ
further true word = word
further false word = 44 ∷ word

-- the reasons of a set, in their order
abbrev pub reasons_word : ReasonSet → List ℕ
reasons_word set = with_commas (map reason_word (filter (has_reason set) all_reasons))

-- who holds a sheet, or `-` for nobody
abbrev pub holder_word : Option ℕ → List ℕ
holder_word None = 45 ∷ []
holder_word (Some station) = decimal station

-- `wait B N CONTESTID REASONS holder H`
abbrev pub wait_line : Key → List ℕ → ReasonSet → Option ℕ → List ℕ
wait_line key contest reasons holder =
    line_of (codes "wait" ∷ key.batch ∷ decimal key.number ∷ contest ∷ reasons_word reasons ∷ codes "holder"
    ∷ holder_word holder ∷ [])

-- the line of a contest of a sheet, with the enabled reasons that hold; none for one that the election hasn't
abbrev pub contest_lines : Election → Key → Bool → ContestMarks → Option ℕ → Option Contest → List (List ℕ)
contest_lines election key sheet_blank marks holder None = []
contest_lines election key sheet_blank marks holder (Some contest) =
    wait_line key contest.id (reasons_of contest marks.states sheet_blank election.reasons) holder ∷ []

-- the line of a contest of a sheet, if it waits
abbrev pub wait_lines : Election → List Event → Key → SheetMarks → ContestMarks → List (List ℕ)
wait_lines election kept key sheet marks =
    if exports_by election (is_blank_sheet sheet) (decided_of kept key) marks
    then []
    else contest_lines election key (is_blank_sheet sheet) marks (holder_of kept key) (slice_get election.contests marks.contest)

-- those of a sheet that was added, in the order of its contests
abbrev pub sheet_lines : Election → List Event → Added → List (List ℕ)
sheet_lines election kept added = flat_map (wait_lines election kept added.key added.sheet) added.sheet.contests

-- those of all sheets, in the order of adding
abbrev pub queue_lines : Election → List Event → List (List ℕ)
queue_lines election kept = flat_map (sheet_lines election kept) (sheets_in kept)

-- `waiting K`
abbrev pub count_line : ℕ → List ℕ
count_line count = line_of (codes "waiting" ∷ decimal count ∷ [])

-- the lines, and then how many they are
unfoldable pub queue_text : Election → List Event → List ℕ
queue_text election kept =
    concat (queue_lines election kept) ++ count_line (length (queue_lines election kept))
