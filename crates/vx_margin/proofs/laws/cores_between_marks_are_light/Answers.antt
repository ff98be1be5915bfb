use Rattle.vx_margin.proofs.Cores.{cores-light}
use Rattle.vx_margin.proofs.laws.cores_between_marks_are_light.Goals as goal

pub returns : goal.returns
returns c = cores-light
