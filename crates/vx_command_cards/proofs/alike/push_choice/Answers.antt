use Rattle.std.proofs.Common.{◌≡◌, length, arith}
use Rattle.vx_command_cards.specs.Alike.{pair_lines}
use Rattle.vx_command_cards.proofs.Lined.{no_lines, lines_on, lines_up_to}
use Rattle.vx_command_cards.proofs.alike.push_choice.Goals as goal

pub loop-second-init : goal.loop-second-init
loop-second-init c = record { lines = no_lines _ _; room = c.requires }

pub loop-second-preserved : goal.loop-second-preserved
loop-second-preserved c = record {
  lines = lines_on (pair_lines c.args.contest.now c.args.first) c.loop-second.second _ _ _ _ _ _ c.loop-second.invariant.lines c.in_ok-push_pair.ensures.lines;
  room = c.in_ok-push_pair.ensures.room;
}

pub returns-clause-lines : goal.returns-clause-lines
returns-clause-lines c =
    let all : c.loop-second.second ≡ length c.args.contest.now.choices = omega arith in
    lines_up_to (pair_lines c.args.contest.now c.args.first) c.loop-second.second (length c.args.contest.now.choices) _ _ _ _ all c.loop-second.invariant.lines
