use Rattle.std.proofs.Common.{arith}
use Rattle.vx_trials_shared.proofs.Running.{each_fits, few_events}
use Rattle.vx_trials_shared.proofs.side_by_side.two_items.Goals as goal

pub returns : goal.returns
returns c =
    let election = c.args._election.now in
    let items = c.args._items.now in
    (omega (arith, c.requires.0, few_events election 2 items c.requires.1), each_fits election 2 items c.requires.1)
