use Rattle.vx_command_queue.proofs.Waits.{writes}
use Rattle.vx_command_queue.proofs.laws.queues_write_what_waits.Goals as goal

pub returns : goal.returns
returns c = writes c.queues_list_what_waits.ensures c.texts_are_of_journals.ensures
