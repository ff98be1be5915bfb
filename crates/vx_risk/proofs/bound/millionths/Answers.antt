use Rattle.std.proofs.Common.{◌+◌, ◌-◌, ◌*◌, ◌/◌, ℕ, ap, sym, ◌∙◌, arith}
use Rattle.std.specs.Prelude.{nat_le}
use Rattle.vx_risk.proofs.Halving.{upper-half, halved}
use Rattle.vx_risk.proofs.bound.millionths.Goals as goal

pub loop-low-preserved : goal.loop-low-preserved
loop-low-preserved c =
    let scaled = c.in_ok-times.ensures ∙ ap (λ (n : ℕ). 1000000 * n) c.in_ok-scaled.ensures in
    upper-half c.args.numerator.now c.args.denominator.now c.loop-low.low c.loop-low.high c.loop-low.invariant c.loop-low-test.true
    (sym (ap (λ (n : ℕ). nat_le n ((c.loop-low.low + (c.loop-low.high - c.loop-low.low) / 2) * c.args.denominator.now)) scaled)
    ∙ sym c.in_ok-is_within.ensures
    ∙ c.if-branch.false)

pub returns-clause-millionths : goal.returns-clause-millionths
returns-clause-millionths c =
    halved c.args.numerator.now c.args.denominator.now c.loop-low.low c.loop-low.high c.loop-low.invariant
    (omega (arith, c.loop-low-test.false))
