use Rattle.vx_results_are_totals.proofs.Waiting.{wait-same}
use Rattle.vx_results_are_totals.proofs.laws.results_wait_as_queues_do.Goals as goal

pub returns : goal.returns
returns c = wait-same c.queues_list_what_waits.ensures
