use Rattle.vx_results_are_totals.proofs.Sampled.{do-the-same}
use Rattle.vx_results_are_totals.proofs.laws.samples_are_the_audits.Goals as goal

pub returns : goal.returns
returns c = do-the-same c.reports_are_read.ensures
