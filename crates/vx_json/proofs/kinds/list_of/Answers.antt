use Rattle.vx_json.proofs.Lists.{list_given}
use Rattle.vx_json.proofs.kinds.list_of.Goals as goal

pub returns-in-Some : goal.returns-in-Some
returns-in-Some c = rw c.as_slice.ensures.value (list_given _ _ c.in-Some.list.now.items c.in-Some.ensures)
