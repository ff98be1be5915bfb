use Rattle.vx_simulate.proofs.Fitting.{simulated-fit}
use Rattle.vx_simulate.proofs.laws.simulated_scans_fit.Goals as goal

pub returns : goal.returns
returns c = simulated-fit c.bubbles_are_outlined.ensures c.printed_pages_keep_clear.ensures
