use Rattle.vx_geom.proofs.Ways.{is-rigid}
use Rattle.vx_geom.proofs.laws.slants_are_rigid.Goals as goal

pub returns : goal.returns
returns c = is-rigid
