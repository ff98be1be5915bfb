use Rattle.vx_command_count.proofs.AllAdded.{all-sheets-added}
use Rattle.vx_command_count.proofs.laws.sheets_are_added.Goals as goal

pub returns : goal.returns
returns c = all-sheets-added
