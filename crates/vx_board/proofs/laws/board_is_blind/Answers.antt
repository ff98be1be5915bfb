use Rattle.vx_board.proofs.Blind.{blind}
use Rattle.vx_board.proofs.laws.board_is_blind.Goals as goal

pub returns : goal.returns
returns c = blind
