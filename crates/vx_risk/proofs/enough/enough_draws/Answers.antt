use Rattle.std.proofs.Common.{arith}
use Rattle.vx_risk.proofs.Drawn.{enough-now, too_few-still, never-enough}
use Rattle.vx_risk.proofs.enough.enough_draws.Goals as goal

pub returns-then-is_at_most : goal.returns-then-is_at_most
returns-then-is_at_most c =
    enough-now c.args.records c.args.margin c.args.limit c.numerator_factor-above.result c.denominator_factor-below.result
    c.loop-drawn.numerator c.loop-drawn.denominator c.times.new.self c.times-in-loop-drawn.new.self c.loop-drawn.drawn c.is_at_most.result
    c.loop-drawn.invariant c.numerator_factor-above.ensures c.denominator_factor-below.ensures c.in_ok-times.ensures c.in_ok-times-2.ensures
    c.is_at_most.ensures c.if-is_at_most.true (omega (arith, c.loop-drawn-test.true))

pub loop-drawn-preserved : goal.loop-drawn-preserved
loop-drawn-preserved c =
    too_few-still c.args.records c.args.margin c.args.limit c.numerator_factor-above.result c.denominator_factor-below.result
    c.loop-drawn.numerator c.loop-drawn.denominator c.times.new.self c.times-in-loop-drawn.new.self c.loop-drawn.drawn c.is_at_most.result
    c.loop-drawn.invariant c.numerator_factor-above.ensures c.denominator_factor-below.ensures c.in_ok-times.ensures c.in_ok-times-2.ensures
    c.is_at_most.ensures c.if-is_at_most.false

pub returns : goal.returns
returns c =
    never-enough c.args.records c.args.margin c.args.limit c.loop-drawn.numerator c.loop-drawn.denominator c.loop-drawn.drawn
    c.loop-drawn.invariant (omega (arith, c.loop-drawn-test.false))
