use Rattle.vx_command_export.proofs.Written.{written}
use Rattle.vx_command_export.proofs.laws.exports_write_what_was_kept.Goals as goal

pub returns : goal.returns
returns c = written c.exports_show_what_was_kept.ensures c.texts_are_of_journals.ensures c.pieces_are_the_report.ensures
