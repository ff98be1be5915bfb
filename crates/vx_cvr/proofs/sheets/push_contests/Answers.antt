use Rattle.vx_cvr.specs.Report.{counted_in}
use Rattle.vx_cvr.proofs.Added.{one_item}
use Rattle.vx_cvr.proofs.sheets.push_contests.Goals as goal

pub loop-counted-preserved : goal.loop-counted-preserved
loop-counted-preserved c =
    one_item (counted_in c.args.election.now) c.args.finals.now c.loop-counted.counted-index c.counted-item.result c.loop-counted.is_later
    c.loop-counted.text c.push_comma.new.text c.push_counted_in.new.text _ c.loop-counted-test.true c.counted-item.is
    c.in_ok-push_comma.ensures c.in_ok-push_counted_in.ensures c.loop-counted.invariant
