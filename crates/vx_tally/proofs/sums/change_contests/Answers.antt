use Rattle.std.proofs.Common.{rules}
use Rattle.vx_tally.specs.Sums.{contest_shares}
use Rattle.vx_tally.proofs.Changes.{turn-allows, turn-changed}
use Rattle.vx_tally.proofs.sums.change_contests.Goals as goal

pub change_contest-requires : goal.change_contest-requires
change_contest-requires c =
    turn-allows (contest_shares c.args.unit) c.args.contests.now c.loop-counted.counted-index c.counted-item.result _
    (search rules) c.counted-item.is c.args.change c.args.sums.now c.loop-counted.sums c.requires c.loop-counted.invariant

pub loop-counted-preserved : goal.loop-counted-preserved
loop-counted-preserved c =
    turn-changed (contest_shares c.args.unit) c.args.contests.now c.loop-counted.counted-index c.counted-item.result _
    (search rules) c.counted-item.is c.args.change c.args.sums.now c.loop-counted.sums _ c.loop-counted.invariant c.change_contest.ensures
