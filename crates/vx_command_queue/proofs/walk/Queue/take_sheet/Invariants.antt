use Rattle.std.proofs.Common.{◌≤◌, length, take, string_bytes}
use Rattle.std.specs.List.{flat_map}
use Rattle.vx_command_queue.specs.Queue.{wait_lines}
use Rattle.vx_command_queue.specs.Walk.{GotLines, IsNextFrom}
use Rattle.vx_command_queue.proofs.walk.Queue.take_sheet.Given as goal

-- the lines of the contests so far
abbrev pub invariant-loop-at : goal.invariant-loop-at
invariant-loop-at l = record {
  lines : GotLines (flat_map (wait_lines l.election l.center.events l.key l.sheet) (take l.at l.sheet.contests)) (string_bytes l.fn.self.text) (string_bytes l.self.text) l.fn.self.count l.self.count;
  next : IsNextFrom l.election l.center.events l.place l.at l.self.next;
  room : l.self.count ≤ length (string_bytes l.self.text);
}
