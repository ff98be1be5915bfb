use Rattle.std.proofs.Common.{◌≡◌, ◌≤◌, ◌+◌, ◌*◌, [], drop, take, Some, true}
use Rattle.vx_io.specs.Outside.{Files}
use Rattle.vx_command.specs.Asking.{Asks}
use Rattle.vx_command.specs.Done.{WritesTo}
use Rattle.vx_walk.specs.Walk.{scans_outcome}
use Rattle.vx_walk.specs.Walked.{images_in, waits}
use Rattle.vx_walk.proofs.scans.walk_scans.Given as goal

-- the scans so far are gone through, without a fault
abbrev pub invariant-loop-scan : goal.invariant-loop-scan
invariant-loop-scan g l = record {
  comes : (files : Files) → g.I.Inputs.held l.fn.inputs ≡ Some files → WritesTo (scans_outcome (g.W.SheetWork.step l.fn.work) (g.W.SheetWork.ending l.fn.work) files l.first_word 0 [] l.scans) (scans_outcome (g.W.SheetWork.step l.fn.work) (g.W.SheetWork.ending l.fn.work) files l.word l.walked.sheets (waits l.walked.waiting) (drop l.scan-index l.scans)) (g.S.Sink.taken l.fn.out) (g.S.Sink.taken l.out);
  may : g.W.SheetWork.may l.work;
  as_before : l.work ≡ l.fn.work;
  word : l.word ≡ l.first_word + l.scan-index;
  room : images_in l.walked ≤ l.scan-index * 67108864;
  same : g.I.Inputs.held l.inputs ≡ g.I.Inputs.held l.fn.inputs;
  no_read_fault : g.I.Inputs.faults l.inputs ≡ g.I.Inputs.faults l.fn.inputs;
  no_write_fault : g.S.Sink.faults l.out ≡ g.S.Sink.faults l.fn.out;
  asked : Asks g.I.Inputs (take l.scan-index l.scans) l.fn.inputs l.inputs true;
}
