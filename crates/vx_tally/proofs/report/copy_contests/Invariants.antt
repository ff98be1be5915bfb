use Rattle.std.proofs.Common.{◌≡◌, ◌++◌, drop}
use Rattle.vx_tally.proofs.report.copy_contests.Given as goal

abbrev pub invariant-loop-contest : goal.invariant-loop-contest
invariant-loop-contest l = l.copy ++ drop l.contest-index l.contests ≡ l.contests
