-- The records of a report, with the votes of their first snapshots.
use Rattle.std.specs.Prelude.{ℕ, List, [], length, map, slice_index_or, Result, Ok, codes}
use Rattle.serde_json.specs.Data.{Data}
use Rattle.vx_json.specs.Paths.{member_path, element_path}
use Rattle.vx_base.specs.Results.{◌>>=◌}
use Rattle.vx_tally.specs.declared.fault.ReportFault.{ReportFault}
use Rattle.vx_tally.specs.declared.report.ReportContest.{ReportContest}
use Rattle.vx_tally.specs.declared.report.CvrRecord.{CvrRecord}
use Rattle.vx_tally.specs.declared.report.RecordContest.{RecordContest}
use Rattle.vx_tally.specs.declared.report.VoteRow.{VoteRow}
use Rattle.vx_tally.specs.Names as names
use Rattle.vx_tally.specs.Members.{list_limit, record_limit, id_member, reference_member, new_reference_member, votes_member, list_member, first_member, each_of}
use Rattle.vx_tally.specs.Contests.{contest_ids, own_selections}

-- the votes for a selection, those of its first position
unfoldable pub votes_in : Data → List ℕ → Result ℕ ReportFault
votes_in value path = do
  position ← first_member value path names.selection_position
  votes_member position (element_path (member_path path names.selection_position) 0) names.number_votes

-- a selection of a contest that has those, with its votes
unfoldable pub row_at : List (List ℕ) → List ℕ → Data → Result VoteRow ReportFault
row_at selections path value = do
  selection ← reference_member value path names.contest_selection_id selections
  votes ← votes_in value path
  Ok (record { selection = selection; votes = votes })

-- the same, after those before it in its list
abbrev pub row_in : List (List ℕ) → List ℕ → List VoteRow → Data → Result VoteRow ReportFault
row_in selections path found value = row_at selections (element_path path (length found)) value

-- the selections of a list
unfoldable pub rows_in : List (List ℕ) → List ℕ → List Data → Result (List VoteRow) ReportFault
rows_in selections path list = each_of (row_in selections path) [] list

-- the selections of the contest at a place
abbrev pub selections_at : List (List (List ℕ)) → ℕ → List (List ℕ)
selections_at selections place = slice_index_or selections place []

-- a contest of a record, where the report has contests with those ids and those selections, and which is none of the contests before it
unfoldable pub counted_at : List (List ℕ) → List (List (List ℕ)) → List ℕ → List ℕ → Data → Result RecordContest ReportFault
counted_at ids selections path found value = do
  contest ← new_reference_member value path (codes "ContestId") ids found
  over ← votes_member value path (codes "Overvotes")
  under ← votes_member value path names.undervotes
  list ← list_member value path names.cvr_contest_selection record_limit
  votes ← rows_in (selections_at selections contest) (member_path path names.cvr_contest_selection) list
  Ok (record { contest = contest; over = over; under = under; votes = votes })

-- the places of contests of a record
abbrev pub counted_places : List RecordContest → List ℕ
counted_places counted = map (λ (one : RecordContest). one.contest) counted

-- the same, after those before it in its list
abbrev pub counted_in : List (List ℕ) → List (List (List ℕ)) → List ℕ → List RecordContest → Data → Result RecordContest ReportFault
counted_in ids selections path found value = counted_at ids selections (element_path path (length found)) (counted_places found) value

-- the contests of a list
unfoldable pub counted_list_in : List (List ℕ) → List (List (List ℕ)) → List ℕ → List Data → Result (List RecordContest) ReportFault
counted_list_in ids selections path list = each_of (counted_in ids selections path) [] list

-- the contests of a record, those of its first snapshot
unfoldable pub snapshot_in : List (List ℕ) → List (List (List ℕ)) → Data → List ℕ → Result (List RecordContest) ReportFault
snapshot_in ids selections value path = do
  snapshot ← first_member value path names.cvr_snapshot
  list ← list_member snapshot (element_path (member_path path names.cvr_snapshot) 0) names.cvr_contest record_limit
  counted_list_in ids selections (member_path (element_path (member_path path names.cvr_snapshot) 0) names.cvr_contest) list

-- a record with an id that none of those is
unfoldable pub record_at : List (List ℕ) → List (List ℕ) → List (List (List ℕ)) → List ℕ → List (List ℕ) → Data → Result CvrRecord ReportFault
record_at units ids selections path uniques value = do
  unique ← id_member value path (codes "UniqueId") uniques
  unit ← reference_member value path names.ballot_style_unit_id units
  contests ← snapshot_in ids selections value path
  Ok (record { unique = unique; unit = unit; contests = contests })

-- the ids of records
abbrev pub unique_ids : List CvrRecord → List (List ℕ)
unique_ids records = map (λ (one : CvrRecord). one.unique) records

-- the same, after those before it in its list
abbrev pub record_in : List (List ℕ) → List (List ℕ) → List (List (List ℕ)) → List ℕ → List CvrRecord → Data → Result CvrRecord ReportFault
record_in units ids selections path found value = record_at units ids selections (element_path path (length found)) (unique_ids found) value

-- the records of a list
unfoldable pub record_list_in : List (List ℕ) → List (List ℕ) → List (List (List ℕ)) → List ℕ → List Data → Result (List CvrRecord) ReportFault
record_list_in units ids selections path list = each_of (record_in units ids selections path) [] list

-- the records of a report that has those units and contests
unfoldable pub records_in : List (List ℕ) → List ReportContest → Data → Result (List CvrRecord) ReportFault
records_in units contests value = do
  list ← list_member value [] (codes "CVR") list_limit
  record_list_in units (contest_ids contests) (own_selections contests) (codes "CVR") list
