use Rattle.std.proofs.Common.{◌-◌}
use Rattle.vx_risk.proofs.Halving.{IsInRange}
use Rattle.vx_risk.proofs.bound.millionths.Given as goal

abbrev pub invariant-loop-low : goal.invariant-loop-low
invariant-loop-low l = IsInRange l.numerator l.denominator l.low l.high

abbrev pub decreases-loop-low : goal.decreases-loop-low
decreases-loop-low l = l.high - l.low
