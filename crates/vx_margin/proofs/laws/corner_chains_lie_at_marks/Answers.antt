use Rattle.vx_margin.proofs.Starts.{corner-chains}
use Rattle.vx_margin.proofs.laws.corner_chains_lie_at_marks.Goals as goal

pub returns : goal.returns
returns c = corner-chains
