use Rattle.std.proofs.Common.{refl}
use Rattle.vx_sampling.proofs.laws.met_is_the_bound.Goals as goal

pub returns : goal.returns
returns c records limit margin findings = refl
