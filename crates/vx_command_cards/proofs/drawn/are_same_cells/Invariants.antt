use Rattle.std.proofs.Common.{◌≡◌, true}
use Rattle.std.specs.List.{list_all, range_with_len}
use Rattle.vx_command_cards.specs.Drawn.{is_same_cell}
use Rattle.vx_command_cards.proofs.drawn.are_same_cells.Given as goal

-- the cells so far are the same
abbrev pub invariant-loop-place : goal.invariant-loop-place
invariant-loop-place l = list_all (is_same_cell l.first l.second) (range_with_len 0 l.place) ≡ true
