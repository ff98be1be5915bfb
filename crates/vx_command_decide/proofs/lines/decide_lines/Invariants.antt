use Rattle.std.proofs.Common.{◌≡◌, ◌≤◌, ◌+◌, length}
use Rattle.vx_command.specs.Done.{ComesTo}
use Rattle.vx_script.specs.Script.{lines_of}
use Rattle.vx_command_decide.specs.Outcome.{lines_outcome}
use Rattle.vx_command_decide.proofs.lines.decide_lines.Given as goal

-- the lines so far are done
abbrev pub invariant-lines : goal.invariant-lines
invariant-lines g l = record {
  comes : ComesTo (lines_outcome l.election l.fn.journal.center.events 1 (lines_of l.fn.script)) (lines_outcome l.election l.journal.center.events l.number (lines_of l.text)) (g.S.Sink.taken l.fn.out) (g.S.Sink.taken l.out) (g.K.Keeper.held l.fn.keeper) (g.K.Keeper.held l.keeper);
  same : l.journal.center.election ≡ l.election;
  room : l.number + length l.text ≤ length l.fn.script + 1;
  no_write_fault : g.S.Sink.faults l.out ≡ g.S.Sink.faults l.fn.out;
  no_keeper_fault : g.K.Keeper.faults l.keeper ≡ g.K.Keeper.faults l.fn.keeper;
}

abbrev pub decreases-lines : goal.decreases-lines
decreases-lines g l = length l.text
