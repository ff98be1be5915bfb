use Rattle.vx_report_read.proofs.Whole.{history-read}
use Rattle.vx_report_read.proofs.laws.histories_are_read.Goals as goal

pub returns : goal.returns
returns c = history-read c.reports_are_read_back.ensures c.rows_fit.ensures c.each_card_has_its_precinct.ensures c.sheets_have_own_keys.ensures
