-- The contests of a record that are looked at, each with what the record says and what the hand's line says.
use Rattle.std.specs.Prelude.{ℕ, ◌==◌, Bool, true, false, not, if◌then◌else◌, List, [], ◌∷◌, ◌++◌, map, filter, codes, bytes_eq, nat_lt, slice_get, Option, Some, None, is_some}
use Rattle.std.specs.List.{find, flat_map, list_any}
use Rattle.std.specs.Option.{option_map}
use Rattle.vx_tally.specs.declared.report.ReportContest.{ReportContest}
use Rattle.vx_tally.specs.declared.report.CvrRecord.{CvrRecord}
use Rattle.vx_tally.specs.declared.report.RecordContest.{RecordContest}
use Rattle.vx_tally.specs.declared.report.VoteRow.{VoteRow}
use Rattle.vx_audit.specs.declared.hand.HandLine.{HandLine}
use Rattle.vx_audit.specs.Walk.{by_place}
use Rattle.vx_audit.specs.Hand.{is_for}

-- ids with commas between, or `-` for none
abbrev pub listed : List (List ℕ) → List ℕ
listed [] = codes "-"
listed (id ∷ ids) = id ++ flat_map (λ (other : List ℕ). 44 ∷ other) ids

-- an id as it follows others, or as the first
abbrev pub further : Bool → List ℕ → List ℕ
further true id = id
further false id = 44 ∷ id

-- an id, where its place is among those
abbrev pub where_among : List ℕ → ℕ → List ℕ → List (List ℕ)
where_among places place id = if list_any (λ other. place == other) places then id ∷ [] else []

-- the selections at those places, in the contest's order
abbrev pub marked_text : List (List ℕ) → List ℕ → List ℕ
marked_text selections places = listed (by_place (where_among places) 0 selections)

-- the selections with a vote
abbrev pub voted : List VoteRow → List ℕ
voted rows = map (λ (row : VoteRow). row.selection) (filter (λ (row : VoteRow). nat_lt 0 row.votes) rows)

-- what a record says of a contest
abbrev pub record_text : List (List ℕ) → Option RecordContest → List ℕ
record_text selections None = codes "none"
record_text selections (Some counted) = marked_text selections (voted counted.votes)

-- what the hand's line says of it
abbrev pub hand_text : List (List ℕ) → HandLine → List ℕ
hand_text selections line = marked_text selections line.marks

-- a contest of a record that is looked at
pub record Pair : Type 0 where
  pub unique : List ℕ
  pub contest : List ℕ
  pub said : List ℕ
  pub read : Option (List ℕ)

-- it is compared where there is a line, and missing where there is none
abbrev pub is_compared : Pair → Bool
is_compared pair = is_some pair.read

abbrev pub is_missing : Pair → Bool
is_missing pair = not (is_some pair.read)

-- it differs where the texts do
abbrev pub differs_from : List ℕ → Option (List ℕ) → Bool
differs_from said None = false
differs_from said (Some read) = not (bytes_eq said read)

abbrev pub is_different : Pair → Bool
is_different pair = differs_from pair.said pair.read

-- a contest is looked at where the record has it or there is a line
abbrev pub pair_of : CvrRecord → ReportContest → Option RecordContest → Option HandLine → List Pair
pair_of one contest None None = []
pair_of one contest counted line =
    record {
      unique = one.unique;
      contest = contest.id;
      said = record_text contest.selections counted;
      read = option_map (hand_text contest.selections) line;
    } ∷ []

-- what a record says of the contest at a place, and the line of the record and the contest at their places
abbrev pub counted_for : ℕ → CvrRecord → Option RecordContest
counted_for contest one = find (λ (counted : RecordContest). contest == counted.contest) one.contests

abbrev pub line_for : List HandLine → ℕ → ℕ → Option HandLine
line_for lines one contest = find (is_for one contest) lines

abbrev pub pair_at : List HandLine → ℕ → CvrRecord → ℕ → ReportContest → List Pair
pair_at lines at one place contest = pair_of one contest (counted_for place one) (line_for lines at place)

-- those of the record at a place
unfoldable pub pairs_of : List ReportContest → List HandLine → ℕ → CvrRecord → List Pair
pairs_of contests lines at one = by_place (pair_at lines at one) 0 contests

-- those of the contest at a place, where there is one
abbrev pub pairs_if : List HandLine → ℕ → CvrRecord → ℕ → Option ReportContest → List Pair
pairs_if lines at one place None = []
pairs_if lines at one place (Some contest) = pair_at lines at one place contest

abbrev pub pairs_at_place : List ReportContest → List HandLine → ℕ → CvrRecord → ℕ → List Pair
pairs_at_place contests lines at one place = pairs_if lines at one place (slice_get contests place)
