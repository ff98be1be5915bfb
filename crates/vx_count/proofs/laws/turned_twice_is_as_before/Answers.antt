use Rattle.vx_count.proofs.Turning.{turned-twice}
use Rattle.vx_count.proofs.laws.turned_twice_is_as_before.Goals as goal

pub returns : goal.returns
returns c = turned-twice
