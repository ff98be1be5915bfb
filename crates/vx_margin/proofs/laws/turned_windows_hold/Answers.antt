use Rattle.vx_margin.proofs.TurnedFinds.{turned-windows}
use Rattle.vx_margin.proofs.laws.turned_windows_hold.Goals as goal

pub returns : goal.returns
returns c = turned-windows
