use Rattle.std.proofs.Common.{◌≡◌, map}
use Rattle.std.specs.List.{range_with_len}
use Rattle.serde_json.specs.View.{view}
use Rattle.vx_board.specs.Contests.{option_data}
use Rattle.vx_board.proofs.contests.options_value.Given as goal

-- the options so far
abbrev pub invariant-loop-option : goal.invariant-loop-option
invariant-loop-option l = map view l.options.items ≡ map (option_data l.contest) (range_with_len 0 l.option)
