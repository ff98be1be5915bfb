use Rattle.vx_report_read.proofs.Utf8.{report-utf8}
use Rattle.vx_report_read.proofs.laws.reports_are_utf8.Goals as goal

pub returns : goal.returns
returns c = report-utf8 c.journals_are_utf8.ensures c.taken_elections_are_valid.ensures c.journals_are_histories.ensures c.rows_fit.ensures
