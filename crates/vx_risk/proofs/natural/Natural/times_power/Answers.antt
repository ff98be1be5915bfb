use Rattle.vx_risk.proofs.Numerals.{power-more}
use Rattle.vx_risk.proofs.natural.Natural.times_power.Goals as goal

pub loop-time-preserved : goal.loop-time-preserved
loop-time-preserved c = power-more c.args.factor c.loop-time._time c.args.self.now c.loop-time.self c.times.new.self c.in_ok-times.ensures c.loop-time.invariant
