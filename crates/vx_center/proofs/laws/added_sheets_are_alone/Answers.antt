use Rattle.vx_center.proofs.Alone.{added-alone}
use Rattle.vx_center.proofs.laws.added_sheets_are_alone.Goals as goal

pub returns : goal.returns
returns c = added-alone
