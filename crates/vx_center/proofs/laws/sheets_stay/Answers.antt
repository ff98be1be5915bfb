use Rattle.vx_center.proofs.Lasting.{sheets-last}
use Rattle.vx_center.proofs.laws.sheets_stay.Goals as goal

pub returns : goal.returns
returns c = sheets-last
