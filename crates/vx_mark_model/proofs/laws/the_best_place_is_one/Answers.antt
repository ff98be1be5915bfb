use Rattle.vx_mark_model.proofs.Ones.{best-unique}
use Rattle.vx_mark_model.proofs.laws.the_best_place_is_one.Goals as goal

pub returns : goal.returns
returns c = best-unique
