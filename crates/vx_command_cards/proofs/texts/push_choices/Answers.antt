use Rattle.std.proofs.Common.{◌≡◌, length, arith}
use Rattle.vx_command_cards.specs.Texts.{option_lines}
use Rattle.vx_command_cards.proofs.Lined.{no_lines, lines_on, lines_up_to}
use Rattle.vx_command_cards.proofs.texts.push_choices.Goals as goal

pub loop-option-init : goal.loop-option-init
loop-option-init c = record { lines = no_lines _ _; room = c.requires }

pub loop-option-preserved : goal.loop-option-preserved
loop-option-preserved c = record {
  lines = lines_on (option_lines c.args.flaw c.args.contest.now) c.loop-option.option _ _ _ _ _ _ c.loop-option.invariant.lines c.in_ok-push_option.ensures.lines;
  room = c.in_ok-push_option.ensures.room;
}

pub returns-clause-lines : goal.returns-clause-lines
returns-clause-lines c =
    let all : c.loop-option.option ≡ length c.args.contest.now.choices = omega arith in
    lines_up_to (option_lines c.args.flaw c.args.contest.now) c.loop-option.option (length c.args.contest.now.choices) _ _ _ _ all c.loop-option.invariant.lines
