use Rattle.std.proofs.Common.{take}
use Rattle.vx_audit.specs.Finding.{FindsBallots, FindsContests}
use Rattle.vx_sampling.proofs.reading.directory_of.Given as goal

abbrev pub invariant-loop-at : goal.invariant-loop-at
invariant-loop-at l = record {
  ballots : FindsBallots (take l.at l.records) l.directory;
  contests : FindsContests l.contests l.directory;
}
