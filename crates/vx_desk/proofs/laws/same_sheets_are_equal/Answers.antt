use Rattle.vx_desk.proofs.Equal.{same_is_equal}
use Rattle.vx_desk.proofs.laws.same_sheets_are_equal.Goals as goal

pub returns : goal.returns
returns c = same_is_equal
