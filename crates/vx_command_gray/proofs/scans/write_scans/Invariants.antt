use Rattle.std.proofs.Common.{◌≡◌, Bool, drop, Some}
use Rattle.vx_io.specs.Outside.{Files}
use Rattle.vx_command.specs.Asking.{Asks}
use Rattle.vx_command_gray.specs.Done.{Comes}
use Rattle.vx_command_gray.specs.Outcome.{gray_outcome, scans_outcome}
use Rattle.vx_command_gray.proofs.scans.write_scans.Given as goal

-- the scans so far are written, without a fault
abbrev pub invariant-loop-word : goal.invariant-loop-word
invariant-loop-word g l = record {
  comes : (files : Files) → g.I.Inputs.held l.fn.inputs ≡ Some files
      → Comes (gray_outcome (drop 1 l.words) files) (scans_outcome files l.word (drop l.word l.words)) (g.S.Sink.taken l.fn.out) (g.S.Sink.taken l.out);
  asked : (end : _) (all : Bool) → Asks g.I.Inputs (drop l.word l.words) l.inputs end all → Asks g.I.Inputs (drop 1 l.words) l.fn.inputs end all;
  same : g.I.Inputs.held l.inputs ≡ g.I.Inputs.held l.fn.inputs;
  no_read_fault : g.I.Inputs.faults l.inputs ≡ g.I.Inputs.faults l.fn.inputs;
  no_write_fault : g.S.Sink.faults l.out ≡ g.S.Sink.faults l.fn.out;
}
