use Rattle.std.proofs.Common.{◌≤◌, ◌-◌, ◌+◌, arith}
use Rattle.vx_mark.proofs.Deficits.{run-light, le-told}
use Rattle.vx_mark.proofs.judge.is_run_light.Goals as goal

pub returns : goal.returns
returns c = λ told u from before.
    let few : c.run-dark.result ≤ 34 - c.args.below = le-told c.run-dark.result (34 - c.args.below) told in
    let first = c.args.columns.first in
    let past = c.args.columns.past in
    run-light c.args.counter.now (first - 17) c.args.row c.run-dark.result c.args.below u (u - first) (past - 1 - u) ((past - first) + 33)
    c.run-dark.ensures (omega arith) (omega arith) (omega arith) (omega arith)
