use Rattle.std.proofs.Common.{ℕ}
use Rattle.vx_risk.specs.Bound.{numerator_by, denominator_by}
use Rattle.vx_risk.proofs.Products.{same-by_counts}
use Rattle.vx_risk.proofs.laws.order_is_nothing.Goals as goal

pub returns : goal.returns
returns c = λ records margin draws os others of of'. (
  same-by_counts draws (λ (o : ℕ). numerator_by records margin) os others of of',
  same-by_counts draws (denominator_by records) os others of of',
)
