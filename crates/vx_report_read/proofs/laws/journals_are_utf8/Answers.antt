use Rattle.vx_report_read.proofs.Utf8.{journal-utf8}
use Rattle.vx_report_read.proofs.laws.journals_are_utf8.Goals as goal

pub returns : goal.returns
returns c = journal-utf8 c.strings_are_utf8.ensures c.records_are_read.ensures
