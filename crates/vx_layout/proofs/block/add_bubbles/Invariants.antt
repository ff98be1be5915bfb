use Rattle.std.proofs.Common.{◌≡◌, ◌++◌, map}
use Rattle.std.specs.List.{range_with_len}
use Rattle.vx_layout.specs.Blocks.{option_bubble}
use Rattle.vx_layout.proofs.block.add_bubbles.Given as goal

-- the bubbles of the options so far
abbrev pub invariant-loop-option : goal.invariant-loop-option
invariant-loop-option l = l.bubbles ≡ l.fn.bubbles ++ map (option_bubble l.number l.contest l.col l.row) (range_with_len 0 l.option)
