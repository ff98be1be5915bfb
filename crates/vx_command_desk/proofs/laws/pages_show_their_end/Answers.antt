use Rattle.vx_command_desk.proofs.Ends.{show_end}
use Rattle.vx_command_desk.proofs.laws.pages_show_their_end.Goals as goal

pub returns : goal.returns
returns c = show_end c.data_is_no_markup.ensures
