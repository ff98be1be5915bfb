use Rattle.vx_center.proofs.OwnSheets.{own-keys}
use Rattle.vx_center.proofs.laws.sheets_have_own_keys.Goals as goal

pub returns : goal.returns
returns c = own-keys
