use Rattle.std.proofs.Common.{◌≡◌, ◌≤◌, ℕ, List, Some, drop}
use Rattle.vx_journal.specs.Replay.{replay_from}
use Rattle.vx_journal.proofs.replaying.read_events.Given as goal

-- the records so far are read, without a fault
abbrev pub invariant-loop-index : goal.invariant-loop-index
invariant-loop-index g l = record {
  reads : (records : List (List ℕ)) → g.K.Keeper.held l.fn.keeper ≡ Some records → replay_from l.center.election l.index l.center.events (drop l.index records) ≡ replay_from l.fn.center.election 1 l.fn.center.events (drop 1 records);
  same_election : l.center.election ≡ l.fn.center.election;
  same : g.K.Keeper.held l.keeper ≡ g.K.Keeper.held l.fn.keeper;
  no_fault : g.K.Keeper.faults l.keeper ≡ g.K.Keeper.faults l.fn.keeper;
  low : 1 ≤ l.index;
}
