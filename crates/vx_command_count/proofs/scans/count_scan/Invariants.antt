use Rattle.std.proofs.Common.{◌≡◌, ◌≤◌, ◌+◌, ◌*◌, length}
use Rattle.vx_command_count.specs.Gathering.{waits}
use Rattle.vx_command_count.specs.Tally.{sheets_in}
use Rattle.vx_command_count.proofs.ScanActs.{UpTo}
use Rattle.vx_command_count.proofs.scans.count_scan.Given as goal

-- the pieces so far are counted, without a fault
abbrev pub invariant-pieces : goal.invariant-pieces
invariant-pieces g l = record {
  up_to : UpTo l.setting.election.now l.setting.batch.now l.word l.fn.counting l.waiting l.bytes (g.S.Sink.taken l.fn.out) (g.S.Sink.taken l.out) (g.K.Keeper.held l.fn.keeper) (g.K.Keeper.held l.keeper) l.counting l.first l.reader;
  election : l.counting.journal.center.election ≡ l.setting.election.now;
  room : 2 * sheets_in l.counting.tally + length (waits l.first) + length l.reader.text ≤ 2 * sheets_in l.fn.counting.tally + length l.waiting + length l.bytes;
  no_write_fault : g.S.Sink.faults l.out ≡ g.S.Sink.faults l.fn.out;
  no_keeper_fault : g.K.Keeper.faults l.keeper ≡ g.K.Keeper.faults l.fn.keeper;
}

abbrev pub decreases-pieces : goal.decreases-pieces
decreases-pieces g l = length l.reader.text
