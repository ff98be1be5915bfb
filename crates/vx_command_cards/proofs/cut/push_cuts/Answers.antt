use Rattle.vx_command_cards.specs.Texts.{cut_at}
use Rattle.vx_command_cards.proofs.Lined.{no_lines, lines_on}
use Rattle.vx_command_cards.proofs.cut.push_cuts.Goals as goal

pub loop-line-init : goal.loop-line-init
loop-line-init c = record { lines = no_lines _ _; room = c.requires.room }

pub loop-line-preserved : goal.loop-line-preserved
loop-line-preserved c = record {
  lines = lines_on (cut_at c.args.contest.now c.args.what.now c.args.text.now) c.loop-line.line _ _ _ _ _ _ c.loop-line.invariant.lines c.in_ok-push_cut.ensures.lines;
  room = c.in_ok-push_cut.ensures.room;
}
