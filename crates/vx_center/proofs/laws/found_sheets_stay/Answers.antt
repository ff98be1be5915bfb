use Rattle.vx_center.proofs.OwnSheets.{sheet-stays}
use Rattle.vx_center.proofs.laws.found_sheets_stay.Goals as goal

pub returns : goal.returns
returns c = sheet-stays
