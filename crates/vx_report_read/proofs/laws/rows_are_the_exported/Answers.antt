use Rattle.vx_report_read.proofs.Whole.{rows-read}
use Rattle.vx_report_read.proofs.laws.rows_are_the_exported.Goals as goal

pub returns : goal.returns
returns c = rows-read c.histories_are_read.ensures
