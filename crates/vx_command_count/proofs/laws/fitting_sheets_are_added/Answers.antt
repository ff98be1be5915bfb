use Rattle.vx_command_count.proofs.Standing.{sheets-added}
use Rattle.vx_command_count.proofs.laws.fitting_sheets_are_added.Goals as goal

pub returns : goal.returns
returns c = sheets-added c.fitting_sheets_are_read.ensures
