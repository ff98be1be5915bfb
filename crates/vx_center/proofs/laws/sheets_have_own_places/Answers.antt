use Rattle.vx_center.proofs.Alone.{own-places}
use Rattle.vx_center.proofs.laws.sheets_have_own_places.Goals as goal

pub returns : goal.returns
returns c = own-places
