-- The report of a count: a cast vote record report after NIST SP 1500-103, version 1.0.0. The members of each object
-- are this project's profile; they stand in the order of their names' bytes.
use Rattle.std.specs.Prelude.{◌≡◌, ◌<◌, ◌^◌, All, ℕ, Bool, true, false, if◌then◌else◌, ◌+◌, ◌/◌, ◌++◌, List, [], ◌∷◌, length, map, codes, slice_index_or, Option, None, Some}
use Rattle.std.specs.List.{flat_map, list_any, range_with_len}
use Rattle.std.specs.Fmt.{decimal}
use Rattle.serde_json.specs.Data.{Data, boolean}
use Rattle.serde_json.specs.Written.{compact_text}
use Rattle.vx_election_model.specs.declared.choice.Choice.{Choice}
use Rattle.vx_election_model.specs.declared.contest.Contest.{Contest}
use Rattle.vx_election_model.specs.declared.election.Election.{Election}
use Rattle.vx_election_model.specs.declared.named.Named.{Named}
use Rattle.vx_election_model.specs.declared.style.Style.{Style}
use Rattle.vx_election_model.specs.Options.{options_of}
use Rattle.vx_styles.specs.Cards.{card_at, no_style}
use Rattle.vx_events.specs.declared.decision.WriteInName.{WriteInName}
use Rattle.vx_events.specs.declared.decision.WriteInName.TheVariants.{Words, Candidate}
use Rattle.vx_events.specs.declared.event.Event.{Event}
use Rattle.vx_center.specs.declared.rows.ExportSheet.{ExportSheet}
use Rattle.vx_center.specs.declared.rows.Final.{Final}
use Rattle.vx_cvr.specs.Json.{text, whole, list, described}
use Rattle.vx_cvr.specs.Names.{device_name, precinct_name, contest_name, candidate_name, selection_name, sheet_name, snapshot_name}
use Rattle.vx_cvr.specs.Votes.{overvotes, undervotes, status_words, is_slot, write_ins, name_of, candidate_of, votes_of, indication_of, allocable}
use Rattle.vx_cvr.specs.Rows.{rows_of}

-- the class of an object
abbrev pub class : List ℕ → List ℕ × Data
class name = (codes "@type", text (codes "CVR." ++ name))

abbrev pub device : List ℕ → Data
device id = described ((codes "@id", text (device_name id)) ∷ class (codes "ReportingDevice") ∷ [])

-- a place that votes: all of the election, or a precinct
abbrev pub place : List ℕ → List ℕ → List ℕ → Data
place id name kind = described
    ((codes "@id", text id) ∷ class (codes "GpUnit") ∷ (codes "Name", text name) ∷ (codes "Type", text kind) ∷ [])

abbrev pub precinct : Named → Data
precinct named = place (precinct_name named.id) named.name (codes "precinct")

abbrev pub places : Election → List Data
places election = place (codes "scope") election.title (codes "other") ∷ map precinct election.precincts

-- no choice and no contest, which stand past the end of a list of them
abbrev pub no_choice : Choice
no_choice = record { id = []; label = []; name = [] }

abbrev pub no_contest : Contest
no_contest = record {
  id = [];
  title = [];
  description = [];
  district = 0;
  party = None;
  seats = 0;
  choices = [];
  write_ins = false;
  is_yes_no = false;
}

-- the choice of an option
abbrev pub choice_at : Contest → ℕ → Choice
choice_at contest option = slice_index_or contest.choices option no_choice

-- a candidate of a contest
abbrev pub candidate : Contest → ℕ → Data
candidate contest option = described
    ((codes "@id", text (candidate_name contest.id option)) ∷ class (codes "Candidate")
    ∷ (codes "Name", text (choice_at contest option).name) ∷ [])

-- the candidates of a contest; the answers of a yes/no contest are none
abbrev pub candidates_of : Contest → List Data
candidates_of contest =
    if contest.is_yes_no then [] else map (candidate contest) (range_with_len 0 (length contest.choices))

-- what may be selected in a contest of candidates: a candidate, or a write-in slot
abbrev pub candidate_selection : Contest → ℕ → Data
candidate_selection contest option = described
    ((codes "@id", text (selection_name contest.id option)) ∷ class (codes "CandidateSelection")
    ∷ (if is_slot contest option
    then (codes "IsWriteIn", boolean true)
    else (codes "CandidateIds", list (text (candidate_name contest.id option) ∷ []))) ∷ [])

-- an answer of a yes/no contest
abbrev pub answer : Contest → ℕ → Data
answer contest option = described
    ((codes "@id", text (selection_name contest.id option)) ∷ class (codes "BallotMeasureSelection")
    ∷ (codes "Selection", text (choice_at contest option).label) ∷ [])

-- what may be selected in a contest: one for each option, in order
abbrev pub selections_of : (Contest → ℕ → Data) → Contest → Data
selections_of selection contest = list (map (selection contest) (range_with_len 0 (options_of contest)))

abbrev pub candidate_contest : Contest → Data
candidate_contest contest = described
    ((codes "@id", text (contest_name contest.id)) ∷ class (codes "CandidateContest")
    ∷ (codes "ContestSelection", selections_of candidate_selection contest)
    ∷ (codes "Name", text contest.title) ∷ (codes "VotesAllowed", whole contest.seats) ∷ [])

abbrev pub measure : Contest → Data
measure contest = described
    ((codes "@id", text (contest_name contest.id)) ∷ class (codes "BallotMeasureContest")
    ∷ (codes "ContestSelection", selections_of answer contest) ∷ (codes "Name", text contest.title) ∷ [])

abbrev pub contest : Contest → Data
contest given = if given.is_yes_no then measure given else candidate_contest given

abbrev pub election_object : Election → Data
election_object election = described
    ((codes "@id", text (codes "election")) ∷ class (codes "Election")
    ∷ (codes "Candidate", list (flat_map candidates_of election.contests))
    ∷ (codes "Contest", list (map contest election.contests))
    ∷ (codes "ElectionScopeId", text (codes "scope")) ∷ (codes "Name", text election.title) ∷ [])

-- who a write-in slot is for: the words, or the named candidate's name
abbrev pub written_name : Contest → WriteInName → List ℕ
written_name contest (Words words) = words
written_name contest (Candidate number) = (choice_at contest number).name

abbrev pub write_in : Contest → Option WriteInName → List (List ℕ × Data)
write_in contest None = []
write_in contest (Some name) =
    (codes "CVRWriteIn", described (class (codes "CVRWriteIn") ∷ (codes "Text", text (written_name contest name)) ∷ [])) ∷ []

-- how a selected option counts
abbrev pub position : Contest → Final → ℕ → Data
position contest final option = described
    (class (codes "SelectionPosition") ∷ write_in contest (name_of contest final option)
    ++ (codes "HasIndication", text (indication_of final option))
    ∷ (codes "IsAllocable", text (allocable contest final option))
    ∷ (codes "NumberVotes", whole (votes_of contest final option)) ∷ [])

-- the selection that an option's votes are for: its own, or that of the candidate whom the slot names
abbrev pub voted_for : ℕ → Option ℕ → ℕ
voted_for option None = option
voted_for option (Some number) = number

abbrev pub selected : Contest → Final → ℕ → Data
selected contest final option = described
    (class (codes "CVRContestSelection")
    ∷ (codes "ContestSelectionId", text (selection_name contest.id (voted_for option (candidate_of contest final option))))
    ∷ (codes "SelectionPosition", list (position contest final option ∷ [])) ∷ [])

-- an exported contest of a sheet
abbrev pub counted : Contest → Final → Data
counted contest final = described
    (class (codes "CVRContest")
    ∷ (codes "CVRContestSelection", list (map (selected contest final) final.selected))
    ∷ (codes "ContestId", text (contest_name contest.id))
    ∷ (codes "Overvotes", whole (overvotes contest final))
    ∷ (codes "Status", list (map text (status_words contest final)))
    ∷ (codes "Undervotes", whole (undervotes contest final))
    ∷ (codes "WriteIns", whole (write_ins contest final)) ∷ [])

abbrev pub counted_in : Election → Final → Data
counted_in election final = counted (slice_index_or election.contests final.contest no_contest) final

-- the election has the contest
abbrev pub IsOfElection : Election → Final → Type 0
IsOfElection election final = final.contest < length election.contests

-- whether a person decided something of a sheet's exported contests
abbrev pub is_modified : List Final → Bool
is_modified finals = list_any (λ (final : Final). final.decided) finals

-- the same in a word
abbrev pub snapshot_kind : List Final → List ℕ
snapshot_kind finals = if is_modified finals then codes "modified" else codes "interpreted"

abbrev pub snapshot : Election → ExportSheet → Data
snapshot election row = described
    ((codes "@id", text (snapshot_name row.key)) ∷ class (codes "CVRSnapshot")
    ∷ (codes "CVRContest", list (map (counted_in election) row.finals))
    ∷ (codes "Type", text (snapshot_kind row.finals)) ∷ [])

-- no precinct, which stands past the end of a list of them
abbrev pub no_precinct : Named
no_precinct = record { id = []; name = [] }

abbrev pub style_at : Election → ℕ → Style
style_at election card = slice_index_or election.styles (card_at election card).style no_style

abbrev pub precinct_at : Election → ℕ → Named
precinct_at election card = slice_index_or election.precincts (card_at election card).precinct no_precinct

-- a sheet, by the names of its leaf and precinct, its batch, its snapshot, and the names of both
abbrev pub sheet_named : List ℕ → List ℕ → List ℕ → List ℕ → Data → List ℕ → List ℕ → Data
sheet_named leaf style unit batch taken taken_name name = described
    (class (codes "CVR")
    ∷ (codes "BallotSheetId", text leaf)
    ∷ (codes "BallotStyleId", text style)
    ∷ (codes "BallotStyleUnitId", text unit)
    ∷ (codes "BatchId", text batch)
    ∷ (codes "CVRSnapshot", list (taken ∷ []))
    ∷ (codes "CurrentSnapshotId", text taken_name)
    ∷ (codes "ElectionId", text (codes "election"))
    ∷ (codes "UniqueId", text name) ∷ [])

-- a sheet: its leaf is 1 for the first two pages of its card, 2 for the next two
abbrev pub sheet : Election → ExportSheet → Data
sheet election row =
    sheet_named (decimal ((row.front + 1) / 2)) (style_at election row.card).id
    (precinct_name (precinct_at election row.card).id) row.key.batch (snapshot election row)
    (snapshot_name row.key) (sheet_name row.key)

-- a contest of a valid election: a yes/no contest has no write-in slots, and no contest has very many options
abbrev pub HasOptions : Contest → Type 0
HasOptions given =
    (options_of given < 2 ^ 32) × (given.is_yes_no ≡ true → options_of given ≡ length given.choices)

-- the election has the contests of a row
abbrev pub HasItsContests : Election → ExportSheet → Type 0
HasItsContests election row = All (IsOfElection election) row.finals

-- the members of a report behind its sheets
abbrev pub behind_sheets : Election → List ℕ → List ℕ → List (List ℕ × Data)
behind_sheets election moment id =
    (codes "Election", list (election_object election ∷ []))
    ∷ (codes "GeneratedDate", text moment)
    ∷ (codes "GpUnit", list (places election))
    ∷ (codes "ReportGeneratingDeviceIds", list (text (device_name id) ∷ []))
    ∷ (codes "ReportingDevice", list (device id ∷ []))
    ∷ (codes "Version", text (codes "1.0.0")) ∷ []

-- the report of rows
abbrev pub report_over : Election → List ExportSheet → List ℕ → List ℕ → Data
report_over election rows moment id = described
    (class (codes "CastVoteRecordReport")
    ∷ (codes "CVR", list (map (sheet election) rows))
    ∷ behind_sheets election moment id)

-- the report of the kept events: one line of text
unfoldable pub report_of : Election → List Event → List ℕ → List ℕ → List ℕ
report_of election kept moment id = compact_text (report_over election (rows_of election kept) moment id) ++ 10 ∷ []
