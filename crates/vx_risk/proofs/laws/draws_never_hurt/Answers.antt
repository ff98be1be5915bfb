use Rattle.vx_risk.proofs.Ordered.{met-with_more}
use Rattle.vx_risk.proofs.laws.draws_never_hurt.Goals as goal

pub returns : goal.returns
returns c = λ records margin limit os met. met-with_more records margin limit os met
