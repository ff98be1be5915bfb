-- How long the lists of a report are at most: the limits of its reader.
use Rattle.std.specs.Prelude.{◌≤◌, All, length}
use Rattle.vx_tally.specs.declared.report.Report.{Report}
use Rattle.vx_tally.specs.declared.report.ReportContest.{ReportContest}
use Rattle.vx_tally.specs.Members.{list_limit}
use Rattle.vx_tally.specs.Totals.{AreCountable}

-- a contest with no more selections than a reader admits
abbrev pub HasFew : ReportContest → Type 0
HasFew contest = length contest.selections ≤ list_limit

-- no list of a report is longer than its reader admits, and its records can be added up
pub record IsSized (report : Report) : Type 0 where
  pub units : length report.units ≤ list_limit
  pub contests : length report.contests ≤ list_limit
  pub selections : All HasFew report.contests
  pub records : AreCountable report.records
