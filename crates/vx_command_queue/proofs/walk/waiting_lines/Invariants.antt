use Rattle.std.proofs.Common.{◌≤◌, length, string_bytes}
use Rattle.vx_command_queue.specs.Walk.{IsUpTo}
use Rattle.vx_command_queue.proofs.walk.waiting_lines.Given as goal

-- the events so far are walked over
abbrev pub invariant-loop-index : goal.invariant-loop-index
invariant-loop-index l = record {
  up_to : IsUpTo l.election l.center.events l.index l.place (string_bytes l.queue.text) l.queue.count l.queue.next;
  room : l.queue.count ≤ length (string_bytes l.queue.text);
}
