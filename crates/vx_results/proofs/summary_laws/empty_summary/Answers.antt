use Rattle.vx_results.proofs.AddsUp.{empty}
use Rattle.vx_results.proofs.summary_laws.empty_summary.Goals as goal

pub returns : goal.returns
returns c = empty
