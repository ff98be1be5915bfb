use Rattle.vx_rounds.proofs.Ended.{count-ends}
use Rattle.vx_rounds.proofs.laws.counts_end.Goals as goal

pub returns : goal.returns
returns c = λ candidates rankings any. count-ends candidates rankings any
