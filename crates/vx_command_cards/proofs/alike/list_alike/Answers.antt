use Rattle.std.proofs.Common.{◌≤◌, List, length, ap, arith}
use Rattle.vx_election_model.specs.declared.contest.Contest.{Contest}
use Rattle.vx_command_cards.specs.Alike.{contest_pairs, alike_lines}
use Rattle.vx_command_cards.proofs.Lined.{lines_all}
use Rattle.vx_command_cards.proofs.alike.list_alike.Goals as goal

pub returns : goal.returns
unfolding alike_lines
returns c =
    let past : length c.args.election.now.contests ≤ c.loop-contest.contest-index = omega (arith, c.loop-contest-test.false, ap (λ (some : List Contest). length some) c.as_slice-contest-items.ensures) in
    lines_all contest_pairs c.args.election.now.contests c.loop-contest.contest-index _ _ _ _ past c.loop-contest.invariant.lines
