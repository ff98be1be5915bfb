-- The votes of one record for a selection, row by row.
use Rattle.std.specs.Prelude.{ℕ, ◌==◌, if◌then◌else◌, List, sum_by}
use Rattle.vx_tally.specs.declared.report.CvrRecord.{CvrRecord}
use Rattle.vx_tally.specs.declared.report.RecordContest.{RecordContest}
use Rattle.vx_tally.specs.declared.report.VoteRow.{VoteRow}

-- those of a row
abbrev pub row_votes : ℕ → VoteRow → ℕ
row_votes selection row = if selection == row.selection then row.votes else 0

-- those of rows
abbrev pub rows_votes : ℕ → List VoteRow → ℕ
rows_votes selection rows = sum_by (row_votes selection) rows

-- those of a contest of a record, where it is the one at that place
abbrev pub contest_votes : ℕ → ℕ → RecordContest → ℕ
contest_votes contest selection counted = if contest == counted.contest then rows_votes selection counted.votes else 0

-- those of a record
abbrev pub record_votes : CvrRecord → ℕ → ℕ → ℕ
record_votes one contest selection = sum_by (contest_votes contest selection) one.contests
