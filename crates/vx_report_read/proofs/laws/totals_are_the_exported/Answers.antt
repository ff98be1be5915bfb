use Rattle.vx_report_read.proofs.Sums.{totals-read}
use Rattle.vx_report_read.proofs.laws.totals_are_the_exported.Goals as goal

pub returns : goal.returns
returns c = totals-read c.exports_show_what_was_kept.ensures c.rows_are_the_exported.ensures
