use Rattle.vx_command.proofs.Kept.{in-order}
use Rattle.vx_command.proofs.laws.records_in_order.Goals as goal

pub returns : goal.returns
returns c = in-order
