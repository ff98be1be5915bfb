use Rattle.vx_desk.proofs.Told.{told_once}
use Rattle.vx_desk.proofs.laws.waiting_is_told_once.Goals as goal

pub returns : goal.returns
returns c = told_once c.same_keys_are_equal.ensures c.sheets_have_own_keys.ensures c.sheets_have_own_places.ensures c.added_sheets_fit.ensures
