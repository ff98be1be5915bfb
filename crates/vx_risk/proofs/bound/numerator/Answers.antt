use Rattle.std.proofs.Common.{◌*◌, ◌^◌, ℕ, ap, ◌∙◌}
use Rattle.vx_risk.specs.Bound.{numerator_by}
use Rattle.vx_risk.proofs.Products.{same-product}
use Rattle.vx_risk.proofs.bound.numerator.Goals as goal

pub returns : goal.returns
returns c = λ os of.
    c.in_ok-times_power.ensures
    ∙ ap (λ (n : ℕ). c.numerator_factor.result ^ c.args.draws.drawn * n) c.in_ok-numerator.ensures
    ∙ ap (λ (n : ℕ). n ^ c.args.draws.drawn * 1) c.numerator_factor.ensures
    ∙ same-product c.args.draws (numerator_by c.args.draws.records c.args.draws.margin) os of
