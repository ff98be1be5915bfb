use Rattle.vx_center.proofs.Adding.{added-append}
use Rattle.vx_center.proofs.laws.sheets_come_in_order.Goals as goal

pub returns : goal.returns
returns c = added-append
