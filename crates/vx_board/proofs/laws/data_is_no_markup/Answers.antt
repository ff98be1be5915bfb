use Rattle.vx_board.proofs.Markup.{no_markup}
use Rattle.vx_board.proofs.laws.data_is_no_markup.Goals as goal

pub returns : goal.returns
returns c = no_markup c.lines_have_no_markup.ensures c.texts_join_without_markup.ensures
