use Rattle.vx_geom.proofs.Floors.{moves-nearby}
use Rattle.vx_geom.proofs.laws.slants_move_nearby.Goals as goal

pub returns : goal.returns
returns c = moves-nearby
