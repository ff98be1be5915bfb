use Rattle.vx_results_are_totals.proofs.Totals.{are-totals}
use Rattle.vx_results_are_totals.proofs.laws.results_are_the_totals.Goals as goal

pub returns : goal.returns
returns c = are-totals c.reports_are_read.ensures
