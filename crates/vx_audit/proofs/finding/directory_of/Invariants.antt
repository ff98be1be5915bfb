use Rattle.std.proofs.Common.{take}
use Rattle.vx_audit.specs.Finding.{FindsBallots, FindsContests}
use Rattle.vx_audit.proofs.finding.directory_of.Given as goal

abbrev pub invariant-loop-place : goal.invariant-loop-place
invariant-loop-place l = record {
  ballots : FindsBallots (take l.place l.records) l.directory;
  contests : FindsContests l.report.contests l.directory;
}
