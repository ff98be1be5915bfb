use Rattle.vx_margin.proofs.Windows.{windows-between}
use Rattle.vx_margin.proofs.laws.windows_lie_between.Goals as goal

pub returns : goal.returns
returns c = windows-between
