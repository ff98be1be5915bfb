use Rattle.vx_margin.proofs.TurnedFinds.{turned-chains}
use Rattle.vx_margin.proofs.laws.turned_chains_lie_at_marks.Goals as goal

pub returns : goal.returns
returns c = turned-chains
