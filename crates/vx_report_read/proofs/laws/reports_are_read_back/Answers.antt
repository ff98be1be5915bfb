use Rattle.vx_report_read.proofs.Trip.{report-read_back}
use Rattle.vx_report_read.proofs.laws.reports_are_read_back.Goals as goal

pub returns : goal.returns
returns c = report-read_back c.lines_are_read_back.ensures c.rows_fit.ensures
