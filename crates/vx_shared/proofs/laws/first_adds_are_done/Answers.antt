use Rattle.vx_shared.proofs.FirstDone.{first-adds}
use Rattle.vx_shared.proofs.laws.first_adds_are_done.Goals as goal

pub returns : goal.returns
returns c = first-adds c.sheets_come_in_order.ensures c.same_keys_are_equal.ensures
