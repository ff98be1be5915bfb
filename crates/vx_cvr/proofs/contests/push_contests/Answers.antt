use Rattle.std.proofs.Common.{◌≡◌, ◌∷◌, ◌++◌, [], rules}
use Rattle.vx_cvr.specs.Report as spec
use Rattle.vx_cvr.proofs.Made.{one_made}
use Rattle.vx_cvr.proofs.contests.push_contests.Goals as goal

pub loop-one-preserved : goal.loop-one-preserved
loop-one-preserved c =
    let pushed : c.push.new.self.items ≡ c.loop-one.contests.items ++ c.in_ok-contest.field-0 ∷ [] = search rules in
    rw pushed
    (one_made spec.contest c.args.given.now c.loop-one.contests.items c.loop-one.one-index c.one-item.result c.in_ok-contest.field-0 _ c.loop-one-test.true c.one-item.is c.in_ok-contest.ensures c.loop-one.invariant)
