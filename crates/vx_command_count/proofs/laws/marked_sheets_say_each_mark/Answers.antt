use Rattle.vx_command_count.proofs.Said.{marks-said}
use Rattle.vx_command_count.proofs.laws.marked_sheets_say_each_mark.Goals as goal

pub returns : goal.returns
returns c = marks-said c.plans_are_numbered.ensures c.plans_show_each_option.ensures c.plans_stand_on_the_grid.ensures
