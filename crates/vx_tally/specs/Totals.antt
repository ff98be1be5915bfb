-- Rows of records, and the sums over them.
use Rattle.std.specs.Prelude.{ℕ, ◌+◌, ◌≤◌, ◌&&◌, ◌==◌, Bool, All, List, length, map, filter, sum_by, bytes_eq, remove}
use Rattle.std.specs.Cmp.Lexicographic.{pointwise}
use Rattle.std.specs.List.{flat_map, position_or_len}
use Rattle.vx_tally.specs.declared.report.CvrRecord.{CvrRecord}
use Rattle.vx_tally.specs.declared.report.RecordContest.{RecordContest}
use Rattle.vx_tally.specs.declared.report.VoteRow.{VoteRow}
use Rattle.vx_tally.specs.Members.{list_limit, vote_limit}

-- votes for a selection of a contest, in a record of a unit
pub record Row : Type 0 where
  pub unit : ℕ
  pub contest : ℕ
  pub selection : ℕ
  pub votes : ℕ

-- the row of votes for a selection
abbrev pub row_of : ℕ → ℕ → VoteRow → Row
row_of unit contest row = record { unit = unit; contest = contest; selection = row.selection; votes = row.votes }

-- the rows of a contest of a record
abbrev pub contest_rows : ℕ → RecordContest → List Row
contest_rows unit counted = map (row_of unit counted.contest) counted.votes

-- the rows of a record
abbrev pub record_rows : CvrRecord → List Row
record_rows one = flat_map (contest_rows one.unit) one.contests

-- the rows of records
abbrev pub rows_of : List CvrRecord → List Row
rows_of records = flat_map record_rows records

-- the votes of the rows that pass
abbrev pub votes_of : (Row → Bool) → List Row → ℕ
votes_of test rows = sum_by (λ (row : Row). row.votes) (filter test rows)

-- a selection of a contest
abbrev pub is_for : ℕ → ℕ → Row → Bool
is_for contest selection row = contest == row.contest && selection == row.selection

-- the same in a unit
abbrev pub is_for_in : ℕ → ℕ → ℕ → Row → Bool
is_for_in unit contest selection row = unit == row.unit && is_for contest selection row

-- the votes for a selection of a contest
unfoldable pub total_of : List CvrRecord → ℕ → ℕ → ℕ
total_of records contest selection = votes_of (is_for contest selection) (rows_of records)

-- the votes for it in a unit
unfoldable pub total_in_of : List CvrRecord → ℕ → ℕ → ℕ → ℕ
total_in_of records unit contest selection = votes_of (is_for_in unit contest selection) (rows_of records)

-- what records say of a contest
abbrev pub counts_of : List CvrRecord → ℕ → List RecordContest
counts_of records contest = filter (λ (counted : RecordContest). contest == counted.contest) (flat_map (λ (one : CvrRecord). one.contests) records)

-- the overvotes of a contest
unfoldable pub over_of : List CvrRecord → ℕ → ℕ
over_of records contest = sum_by (λ (counted : RecordContest). counted.over) (counts_of records contest)

-- the undervotes of a contest
unfoldable pub under_of : List CvrRecord → ℕ → ℕ
under_of records contest = sum_by (λ (counted : RecordContest). counted.under) (counts_of records contest)

-- what records sum up to: how many there are, and by their places the votes for a selection of a contest, those in a unit, and
-- the overvotes and the undervotes of a contest
pub record Summed : Type 0 where
  pub count : ℕ
  pub votes : ℕ → ℕ → ℕ
  pub votes_in : ℕ → ℕ → ℕ → ℕ
  pub over : ℕ → ℕ
  pub under : ℕ → ℕ

abbrev pub summed_of : List CvrRecord → Summed
summed_of records = record {
  count = length records;
  votes = total_of records;
  votes_in = total_in_of records;
  over = over_of records;
  under = under_of records;
}

-- equal votes, equal contests and equal records
abbrev pub same_row : VoteRow → VoteRow → Bool
same_row one other = one.selection == other.selection && one.votes == other.votes

abbrev pub same_contest : RecordContest → RecordContest → Bool
same_contest one other = one.contest == other.contest && (one.over == other.over && (one.under == other.under && pointwise same_row one.votes other.votes))

abbrev pub same_record : CvrRecord → CvrRecord → Bool
same_record one other = bytes_eq one.unique other.unique && (one.unit == other.unit && pointwise same_contest one.contests other.contests)

-- the records without the first that is equal
abbrev pub without_first : CvrRecord → List CvrRecord → List CvrRecord
without_first one records = remove records (position_or_len (same_record one) records)

-- how many records there are at most, and how many contests and rows one has at most
abbrev pub record_count_limit : ℕ
record_count_limit = 1000000000

abbrev pub record_size_limit : ℕ
record_size_limit = 10000000

-- how many contests and rows a record has
abbrev pub size_of : CvrRecord → ℕ
size_of one = sum_by (λ (counted : RecordContest). 1 + length counted.votes) one.contests

-- the numbers of a contest of a record aren't above what a reader admits
abbrev pub IsSmall : RecordContest → Type 0
IsSmall counted = (counted.over ≤ vote_limit) × (counted.under ≤ vote_limit) × All (λ (row : VoteRow). row.votes ≤ vote_limit) counted.votes

-- a record that can be added
pub record IsCountable (one : CvrRecord) : Type 0 where
  pub size : size_of one ≤ record_size_limit
  pub small : All IsSmall one.contests

-- records of which each can be added, few enough to add them all
pub record AreCountable (records : List CvrRecord) : Type 0 where
  pub few : length records ≤ list_limit
  pub each : All IsCountable records
