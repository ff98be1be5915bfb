use Rattle.std.proofs.Common.{◌<◌, arith}
use Rattle.vx_simulate.proofs.ScanRows.{changed-more}
use Rattle.vx_simulate.proofs.sheared.change_row.Goals as goal

pub loop-k-preserved : goal.loop-k-preserved
loop-k-preserved c =
    let inside : c.loop-k.k < 225 = omega arith in
    changed-more c.args.into.now c.args.row.now c.loop-k.into c.args.from c.loop-k.k c.eight_from.result c.loop-k.invariant inside c.eight_from.ensures
