use Rattle.std.proofs.Common.{◌≡◌, ◌≤◌, ◌-◌, All, length}
use Rattle.vx_trials_shared.specs.Same.{IsScript}
use Rattle.vx_trials_shared.proofs.threads.scripts.Given as goal

-- there is a script for each thread so far
abbrev pub invariant-loop-threads : goal.invariant-loop-threads
invariant-loop-threads l = record {
  many : length l.scripts.items ≡ l.threads;
  few : l.threads ≤ 8;
  each : All (IsScript l._election 1250) l.scripts.items;
}

abbrev pub decreases-loop-threads : goal.decreases-loop-threads
decreases-loop-threads l = 8 - l.threads
