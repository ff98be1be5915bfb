use Rattle.std.proofs.Common.{◌-◌, ◌∙◌, arith}
use Rattle.vx_risk.specs.Bound.{denominator_by}
use Rattle.vx_risk.proofs.Products.{powers, counted-product}
use Rattle.vx_risk.proofs.bound.denominator.Goals as goal

pub returns : goal.returns
returns c = λ os of.
    powers (denominator_by c.args.draws.records) c.denominator_factor.result c.denominator_factor-2.result c.denominator_factor-3.result
    c.saturating_sub-none.result c.args.draws.one c.args.draws.two
    c.in_ok-denominator.denominator c.times_power.new.self c.times_power-2.new.self c.times_power-3.new.self
    (c.args.draws.drawn - c.args.draws.one - c.args.draws.two)
    c.denominator_factor.ensures c.denominator_factor-2.ensures c.denominator_factor-3.ensures
    (omega (arith, c.saturating_sub.ensures, c.saturating_sub-none.ensures))
    c.in_ok-denominator.ensures c.in_ok-times_power.ensures c.in_ok-times_power-2.ensures c.in_ok-times_power-3.ensures
    ∙ counted-product c.args.draws (denominator_by c.args.draws.records) os of
