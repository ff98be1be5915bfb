use Rattle.vx_mark_model.proofs.Ones.{corner-unique}
use Rattle.vx_mark_model.proofs.laws.the_corner_is_one.Goals as goal

pub returns : goal.returns
returns c = corner-unique
