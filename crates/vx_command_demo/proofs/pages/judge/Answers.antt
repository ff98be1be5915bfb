use Rattle.vx_command_demo.proofs.Within.{few-scores, few-states}
use Rattle.vx_command_demo.proofs.pages.judge.Goals as goal

pub sums_read-requires-clause-states : goal.sums_read-requires-clause-states
sums_read-requires-clause-states c =
    few-states c.named_pages_stand_on_the_grid.ensures c.args.election.now c.in-Ok.reading c.in-Ok._plan.now c.requires.election c.in-Ok.ensures.1

pub sums_read-requires-clause-scores : goal.sums_read-requires-clause-scores
sums_read-requires-clause-scores c =
    few-scores c.named_pages_stand_on_the_grid.ensures c.args.election.now c.in-Ok.reading c.in-Ok._plan.now c.requires.election c.in-Ok.ensures.1
