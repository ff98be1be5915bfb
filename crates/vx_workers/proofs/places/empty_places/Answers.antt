use Rattle.vx_workers.proofs.Answering.{with_empty}
use Rattle.vx_workers.proofs.places.empty_places.Goals as goal

pub loop-preserved : goal.loop-preserved
loop-preserved g c =
    with_empty g.F.Fn c.args._task.now c.args.items.now c.loop.places.items c.push.new.self.items c.loop.index c.loop.invariant c.loop-test.true c.in_ok-push.ensures.items
