use Rattle.vx_geom.proofs.Pieces.{nearly-moved-back}
use Rattle.vx_geom.proofs.laws.slants_move_back_nearly_as_a_whole.Goals as goal

pub returns : goal.returns
returns c = nearly-moved-back
