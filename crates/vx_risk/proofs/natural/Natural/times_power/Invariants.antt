use Rattle.std.proofs.Common.{◌≡◌, ◌*◌, ◌^◌}
use Rattle.vx_risk.proofs.natural.Natural.times_power.Given as goal

abbrev pub invariant-loop-time : goal.invariant-loop-time
invariant-loop-time l = l.self ≡ l.factor ^ l._time * l.fn.self
