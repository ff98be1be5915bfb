use Rattle.vx_command_queue.proofs.Waits.{lists}
use Rattle.vx_command_queue.proofs.laws.queues_list_what_waits.Goals as goal

pub returns : goal.returns
returns c = lists c.added_sheets_fit.ensures c.sheets_have_own_places.ensures
