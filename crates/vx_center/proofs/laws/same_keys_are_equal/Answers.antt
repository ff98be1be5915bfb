use Rattle.vx_center.proofs.Keys.{same-equal}
use Rattle.vx_center.proofs.laws.same_keys_are_equal.Goals as goal

pub returns : goal.returns
returns c = same-equal
