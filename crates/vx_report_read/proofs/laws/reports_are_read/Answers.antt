use Rattle.vx_report_read.proofs.Whole.{report-read}
use Rattle.vx_report_read.proofs.laws.reports_are_read.Goals as goal

pub returns : goal.returns
returns c = report-read c.histories_are_read.ensures c.reports_are_utf8.ensures c.taken_elections_are_valid.ensures c.journals_are_histories.ensures
