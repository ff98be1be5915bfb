use Rattle.vx_risk.specs.Bound.{numerator_of, denominator_of}
use Rattle.vx_risk.proofs.Rounded.{denominator-some, rounded-up}
use Rattle.vx_risk.proofs.laws.millionths_are_rounded_up.Goals as goal

pub returns : goal.returns
returns c = λ records margin os some small.
    rounded-up (numerator_of records margin os) (denominator_of records os) (denominator-some records os some small)
