use Rattle.vx_command_center.proofs.Appended.{scans-there}
use Rattle.vx_command_center.proofs.laws.scans_are_items.Goals as goal

pub returns : goal.returns
returns c = scans-there
