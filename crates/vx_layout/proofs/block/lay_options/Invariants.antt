use Rattle.std.proofs.Common.{◌≡◌, ◌++◌}
use Rattle.std.specs.List.{flat_map, range_with_len}
use Rattle.vx_layout.specs.Blocks.{option_lines}
use Rattle.vx_layout.proofs.block.lay_options.Given as goal

-- the lines of the options so far
abbrev pub invariant-loop-option : goal.invariant-loop-option
invariant-loop-option l = l.texts ≡ l.fn.texts ++ flat_map (option_lines l.paper l.contest l.col l.row) (range_with_len 0 l.option)
