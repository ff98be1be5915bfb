use Rattle.std.proofs.Common.{◌≡◌, ◌≤◌, ◌+◌, ◌*◌, [], drop, length, take, Some, true}
use Rattle.vx_io.specs.Outside.{Files}
use Rattle.vx_command.specs.Asking.{Asks}
use Rattle.vx_command.specs.Done.{ComesTo}
use Rattle.vx_command_count.specs.Outcome.{scans_outcome}
use Rattle.vx_command_count.specs.Tally.{sheets_in}
use Rattle.vx_command_count.proofs.scans.count_scans.Given as goal

-- the scans so far are counted, without a fault
abbrev pub invariant-loop-scan : goal.invariant-loop-scan
invariant-loop-scan g l = record {
  comes : (files : Files) → g.I.Inputs.held l.fn.inputs ≡ Some files → ComesTo (scans_outcome l.setting.election.now l.setting.batch.now files 4 l.fn.counting [] l.scans) (scans_outcome l.setting.election.now l.setting.batch.now files l.word l.counting l.waiting (drop l.scan-index l.scans)) (g.S.Sink.taken l.fn.out) (g.S.Sink.taken l.out) (g.K.Keeper.held l.fn.keeper) (g.K.Keeper.held l.keeper);
  election : l.counting.journal.center.election ≡ l.setting.election.now;
  word : l.word ≡ 4 + l.scan-index;
  room : 2 * sheets_in l.counting.tally + length l.waiting ≤ l.scan-index * 67108864;
  same : g.I.Inputs.held l.inputs ≡ g.I.Inputs.held l.fn.inputs;
  no_read_fault : g.I.Inputs.faults l.inputs ≡ g.I.Inputs.faults l.fn.inputs;
  no_write_fault : g.S.Sink.faults l.out ≡ g.S.Sink.faults l.fn.out;
  no_keeper_fault : g.K.Keeper.faults l.keeper ≡ g.K.Keeper.faults l.fn.keeper;
  asked : Asks g.I.Inputs (take l.scan-index l.scans) l.fn.inputs l.inputs true;
}
