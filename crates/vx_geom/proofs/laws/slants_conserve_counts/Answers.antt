use Rattle.vx_geom.proofs.Shown.{conserves-counts}
use Rattle.vx_geom.proofs.laws.slants_conserve_counts.Goals as goal

pub returns : goal.returns
returns c = conserves-counts
