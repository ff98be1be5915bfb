use Rattle.vx_command_try.proofs.Accepted.{accepted}
use Rattle.vx_command_try.proofs.laws.tried_sheets_are_added.Goals as goal

pub returns : goal.returns
returns c = accepted c.sheets_are_added.ensures
