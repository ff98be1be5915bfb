use Rattle.std.proofs.Common.{◌≡◌, ◌≤◌, ◌+◌, ◌*◌, true, drop, take, Some}
use Rattle.vx_io.specs.Outside.{Files}
use Rattle.vx_command.specs.Asking.{Asks}
use Rattle.vx_command.specs.Done.{WritesTo}
use Rattle.vx_command_read.specs.Outcome.{scans_outcome}
use Rattle.vx_command_read.proofs.scans.read_scans.Given as goal

-- the scans so far are read, without a fault
abbrev pub invariant-loop-scan : goal.invariant-loop-scan
invariant-loop-scan g l = record {
  comes : (files : Files) → g.I.Inputs.held l.fn.inputs ≡ Some files → WritesTo (scans_outcome l.election files 2 1 l.scans) (scans_outcome l.election files l.word l.number (drop l.scan-index l.scans)) (g.S.Sink.taken l.fn.out) (g.S.Sink.taken l.out);
  word : l.word ≡ 2 + l.scan-index;
  room : l.number ≤ 1 + l.scan-index * 67108864;
  asked : Asks g.I.Inputs (take l.scan-index l.scans) l.fn.inputs l.inputs true;
  same : g.I.Inputs.held l.inputs ≡ g.I.Inputs.held l.fn.inputs;
  no_read_fault : g.I.Inputs.faults l.inputs ≡ g.I.Inputs.faults l.fn.inputs;
  no_write_fault : g.S.Sink.faults l.out ≡ g.S.Sink.faults l.fn.out;
}
