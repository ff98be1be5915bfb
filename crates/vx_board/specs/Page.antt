-- The page's fixed parts, whose texts stand in the code alone: the head before the data, the tail behind them.
use Rattle.std.specs.Prelude.{ℕ, List}
use Rattle.std.specs.List.{flat_map}
use Rattle.vx_board.specs.declared.page.TheConstants.{HEAD, TAIL}

-- the head: its pieces, one after the other
abbrev pub head : List ℕ
head = flat_map (λ piece. piece.now) HEAD

-- the tail
abbrev pub tail : List ℕ
tail = flat_map (λ piece. piece.now) TAIL
