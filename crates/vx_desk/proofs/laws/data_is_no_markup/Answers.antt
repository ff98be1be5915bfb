use Rattle.vx_desk.proofs.Markup.{no_markup}
use Rattle.vx_desk.proofs.laws.data_is_no_markup.Goals as goal

pub returns : goal.returns
returns c = no_markup c.lines_have_no_markup.ensures
