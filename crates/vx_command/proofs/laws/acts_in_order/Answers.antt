use Rattle.vx_command.proofs.Acts.{done_then, broken_then, ended_here, no_memory_here}
use Rattle.vx_command.proofs.laws.acts_in_order.Goals as goal

pub returns : goal.returns
returns c = record {
  done = λ acts rest taken taken_now held held_now first taken_then held_then answer second. done_then acts rest taken taken_now taken_then held held_now held_then answer first second;
  broken = broken_then;
  ended = ended_here;
  no_memory = no_memory_here;
}
