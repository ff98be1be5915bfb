use Rattle.vx_board.proofs.Written.{written}
use Rattle.vx_board.proofs.laws.board_is_of_what_was_kept.Goals as goal

pub returns : goal.returns
returns c = written c.texts_are_of_journals.ensures
