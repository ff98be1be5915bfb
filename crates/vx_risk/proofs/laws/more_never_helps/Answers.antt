use Rattle.vx_risk.proofs.Ordered.{met-with_less}
use Rattle.vx_risk.proofs.laws.more_never_helps.Goals as goal

pub returns : goal.returns
returns c = λ records margin limit less more each met. met-with_less records margin limit less more each met
