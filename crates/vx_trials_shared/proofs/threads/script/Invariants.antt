use Rattle.std.proofs.Common.{◌≡◌, ◌*◌, ◌≤◌, ◌-◌, All, length}
use Rattle.vx_events.specs.Fits.{Fits}
use Rattle.vx_trials_shared.proofs.threads.script.Given as goal

-- so many turns are in the script, and all of it fits
abbrev pub invariant-loop-turns : goal.invariant-loop-turns
invariant-loop-turns l = record {
  long : length l.events ≡ 2 * l.turns;
  few : l.turns ≤ 625;
  fits : All (Fits l._election) l.events;
}

abbrev pub decreases-loop-turns : goal.decreases-loop-turns
decreases-loop-turns l = 625 - l.turns
