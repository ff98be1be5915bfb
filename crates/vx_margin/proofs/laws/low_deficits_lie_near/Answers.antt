use Rattle.vx_margin.proofs.Found.{low-near}
use Rattle.vx_margin.proofs.laws.low_deficits_lie_near.Goals as goal

pub returns : goal.returns
returns c = low-near
