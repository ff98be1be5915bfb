use Rattle.vx_words.proofs.Drawn.{board_spelled}
use Rattle.vx_words.proofs.deciding.is_board.Goals as goal

pub returns : goal.returns
returns c = (_, board_spelled c.args.words.now c.word.result.now c.word-2.result.now _ _ c.requires c.word.ensures c.word-2.ensures c.in-Some.ensures c.in-Some-sample_size.ensures)
