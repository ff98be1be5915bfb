use Rattle.std.proofs.Common.{◌≡◌}
use Rattle.vx_trials_counting.proofs.reports.counted.Given as goal

-- the center is the election's
abbrev pub invariant-loop-event : goal.invariant-loop-event
invariant-loop-event l = l.center.election ≡ l.election
