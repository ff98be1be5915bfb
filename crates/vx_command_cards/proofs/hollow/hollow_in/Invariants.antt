use Rattle.std.proofs.Common.{◌≡◌}
use Rattle.std.specs.List.{flat_map, range_with_len}
use Rattle.vx_command_cards.specs.Drawn.{hollow_at}
use Rattle.vx_command_cards.proofs.hollow.hollow_in.Given as goal

-- the hollow characters so far
abbrev pub invariant-loop-place : goal.invariant-loop-place
invariant-loop-place l = l.points.items ≡ flat_map (hollow_at l.characters) (range_with_len 0 l.place)
