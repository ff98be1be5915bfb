use Rattle.vx_rounds.proofs.Short.{are-short}
use Rattle.vx_rounds.proofs.laws.rankings_are_short.Goals as goal

pub returns : goal.returns
returns c = λ candidates rankings small each. are-short candidates rankings small each
