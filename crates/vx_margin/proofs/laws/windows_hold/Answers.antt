use Rattle.vx_margin.proofs.Finds.{holds-window}
use Rattle.vx_margin.proofs.laws.windows_hold.Goals as goal

pub returns : goal.returns
returns c = holds-window
