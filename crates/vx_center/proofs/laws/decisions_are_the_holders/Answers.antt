use Rattle.vx_center.proofs.Lasting.{decisions-held}
use Rattle.vx_center.proofs.laws.decisions_are_the_holders.Goals as goal

pub returns : goal.returns
returns c = decisions-held
