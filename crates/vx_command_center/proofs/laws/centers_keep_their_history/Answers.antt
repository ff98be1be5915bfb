use Rattle.vx_command_center.proofs.Appended.{center-records}
use Rattle.vx_command_center.proofs.laws.centers_keep_their_history.Goals as goal

pub returns : goal.returns
returns c = center-records
