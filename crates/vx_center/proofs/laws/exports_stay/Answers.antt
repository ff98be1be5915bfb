use Rattle.vx_center.proofs.Lasting.{exports-last}
use Rattle.vx_center.proofs.laws.exports_stay.Goals as goal

pub returns : goal.returns
returns c = exports-last
