use Rattle.std.proofs.Common.{◌≡◌, length, arith}
use Rattle.vx_command_cards.specs.Alike.{choice_pairs}
use Rattle.vx_command_cards.proofs.Lined.{no_lines, lines_on, lines_up_to}
use Rattle.vx_command_cards.proofs.alike.push_pairs.Goals as goal

pub loop-first-init : goal.loop-first-init
loop-first-init c = record { lines = no_lines _ _; room = c.requires }

pub loop-first-preserved : goal.loop-first-preserved
loop-first-preserved c = record {
  lines = lines_on (choice_pairs c.args.contest.now) c.loop-first.first _ _ _ _ _ _ c.loop-first.invariant.lines c.in_ok-push_choice.ensures.lines;
  room = c.in_ok-push_choice.ensures.room;
}

pub returns-clause-lines : goal.returns-clause-lines
returns-clause-lines c =
    let all : c.loop-first.first ≡ length c.args.contest.now.choices = omega arith in
    lines_up_to (choice_pairs c.args.contest.now) c.loop-first.first (length c.args.contest.now.choices) _ _ _ _ all c.loop-first.invariant.lines
