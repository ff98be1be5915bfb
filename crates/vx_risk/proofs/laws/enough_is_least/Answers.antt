use Rattle.vx_risk.proofs.Ordered.{enough-least}
use Rattle.vx_risk.proofs.laws.enough_is_least.Goals as goal

pub returns : goal.returns
returns c = λ records margin limit. enough-least records margin limit
