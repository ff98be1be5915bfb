use Rattle.vx_command_cards.proofs.Boxes.{counts}
use Rattle.vx_command_cards.proofs.laws.hollow_boxes_are_those_of_plans.Goals as goal

pub returns : goal.returns
returns c line = counts line
