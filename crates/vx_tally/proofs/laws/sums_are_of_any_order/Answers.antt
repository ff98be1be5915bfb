use Rattle.vx_tally.proofs.Running.{any-order}
use Rattle.vx_tally.proofs.laws.sums_are_of_any_order.Goals as goal

pub returns : goal.returns
returns c = any-order
