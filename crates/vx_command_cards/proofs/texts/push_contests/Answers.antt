use Rattle.std.proofs.Common.{◌≤◌, List, length, ap, arith}
use Rattle.vx_election_model.specs.declared.contest.Contest.{Contest}
use Rattle.vx_command_cards.specs.Texts.{contest_lines}
use Rattle.vx_command_cards.proofs.Lined.{no_lines, lines_all}
use Rattle.vx_command_cards.proofs.texts.push_contests.Goals as goal

pub loop-contest-init : goal.loop-contest-init
loop-contest-init c = record { lines = no_lines _ _; room = c.requires }

pub returns-clause-lines : goal.returns-clause-lines
returns-clause-lines c =
    let past : length c.args.election.now.contests ≤ c.loop-contest.contest-index = omega (arith, c.loop-contest-test.false, ap (λ (some : List Contest). length some) c.as_slice-contest-items.ensures) in
    lines_all (contest_lines c.args.flaw) c.args.election.now.contests c.loop-contest.contest-index _ _ _ _ past c.loop-contest.invariant.lines
