use Rattle.std.proofs.Common.{◌≤◌, length}
use Rattle.vx_trials_sums.proofs.tallies.steps_agree.Given as goal

abbrev pub invariant-loop-step : goal.invariant-loop-step
invariant-loop-step l = length l.tally ≤ l.step
