use Rattle.std.proofs.Common.{◌≡◌, ◌+◌, ◌≤◌, length}
use Rattle.std.specs.Prelude.{All}
use Rattle.vx_events.specs.Fits.{Fits}
use Rattle.vx_script.specs.Script.{lines_of}
use Rattle.vx_command_center.specs.Outcome.{events_in_lines}
use Rattle.vx_command_center.proofs.Scripts.{behind}
use Rattle.vx_command_center.proofs.lines.script_events.Given as goal

-- the events of the lines so far
abbrev pub invariant-lines : goal.invariant-lines
invariant-lines l = record {
  so_far : events_in_lines l.election 1 (lines_of l.fn.script) ≡ behind l.events (events_in_lines l.election l.number (lines_of l.text));
  fits : All (Fits l.election) l.events;
  room : l.number + length l.text ≤ length l.fn.script + 1;
}

abbrev pub decreases-lines : goal.decreases-lines
decreases-lines l = length l.text
