use Rattle.std.proofs.Common.{rules, get_or}
use Rattle.vx_ranked.proofs.Ranked.{turn-took}
use Rattle.vx_ranked.proofs.ranking.ranking_of.Goals as goal

pub loop-contest-preserved : goal.loop-contest-preserved
loop-contest-preserved c =
    let contest = get_or c.args.contests.now c.loop-contest.contest-index 0 in
    turn-took c.args.finals.now c.args.contests.now c.loop-contest.ranking.items c.loop-contest.contest-index contest c.loop-contest-test.true (search rules)
    _ c.loop-contest.invariant _ _ _ c.final_at.ensures c.if-not-branch.false c.in_ok-take_rank.ensures.goes_on c.in_ok-take_rank.ensures.list
