use Rattle.std.proofs.Common.{◌+◌}
use Rattle.vx_simulate.specs.Draws.{draw, draws}
use Rattle.vx_simulate.proofs.OneMore.{one-laid, draws-next}
use Rattle.vx_simulate.proofs.drawing.draws.Goals as goal

pub loop-n-preserved : goal.loop-n-preserved
loop-n-preserved c =
    let n = c.loop-n.n in
    let laid = one-laid (draw c.args.bound) (draws n c.args.bound c.args.rng.now) (draws (n + 1) c.args.bound c.args.rng.now) c.loop-n.numbers.items c.push.new.self.items c.draw.result c.loop-n.rng c.draw.new.rng
    (draws-next n c.args.bound c.args.rng.now) c.loop-n.invariant.numbers c.loop-n.invariant.next c.draw.ensures.number c.draw.ensures.next c.in_ok-push.ensures.items in
    record { numbers = laid.0; next = laid.1 }
