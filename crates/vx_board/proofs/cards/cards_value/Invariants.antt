use Rattle.std.proofs.Common.{◌≡◌, map}
use Rattle.std.specs.List.{range_with_len}
use Rattle.serde_json.specs.View.{view}
use Rattle.vx_board.specs.Contests.{card_data}
use Rattle.vx_board.proofs.cards.cards_value.Given as goal

-- the cards so far
abbrev pub invariant-loop-number : goal.invariant-loop-number
invariant-loop-number l = map view l.made.items ≡ map (card_data l.election) (range_with_len 0 l.number)
