use Rattle.std.proofs.Common.{◌+◌, take, get_or, false, arith}
use Rattle.vx_simulate.specs.Draws.{draw_all}
use Rattle.vx_simulate.specs.Ink.{draw_ink}
use Rattle.vx_simulate.proofs.OneMore.{one-laid, front-drawn}
use Rattle.vx_simulate.proofs.ink.draw_inks.Goals as goal

pub loop-marked-preserved : goal.loop-marked-preserved
loop-marked-preserved c =
    let i = c.loop-marked.marked-index in
    let marks = c.args.marks.now in
    let one = draw_ink c.args.thresholds in
    let laid = one-laid (one (get_or marks i false)) (draw_all one (take i marks) c.args.rng.now) (draw_all one (take (i + 1) marks) c.args.rng.now) c.loop-marked.inks.items c.push.new.self.items c.draw_ink.result c.loop-marked.rng c.draw_ink.new.rng
    (front-drawn one marks i false c.args.rng.now (omega arith)) c.loop-marked.invariant.inks c.loop-marked.invariant.next c.draw_ink.ensures.ink c.draw_ink.ensures.next c.in_ok-push.ensures.items in
    record { inks = laid.0; next = laid.1 }
