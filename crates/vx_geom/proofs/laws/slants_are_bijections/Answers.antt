use Rattle.vx_geom.proofs.Ways.{is-bijection}
use Rattle.vx_geom.proofs.laws.slants_are_bijections.Goals as goal

pub returns : goal.returns
returns c = is-bijection
