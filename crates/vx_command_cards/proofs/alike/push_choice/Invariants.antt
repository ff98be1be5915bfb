use Rattle.std.proofs.Common.{◌≤◌, length, string_bytes}
use Rattle.std.specs.List.{flat_map, range_with_len}
use Rattle.vx_command_cards.specs.Lines.{GotLines}
use Rattle.vx_command_cards.specs.Alike.{pair_lines}
use Rattle.vx_command_cards.proofs.alike.push_choice.Given as goal

-- the lines so far
abbrev pub invariant-loop-second : goal.invariant-loop-second
invariant-loop-second l = record {
  lines : GotLines (flat_map (pair_lines l.contest l.first) (range_with_len 0 l.second)) (string_bytes l.fn.lines.text) (string_bytes l.lines.text) l.fn.lines.count l.lines.count;
  room : l.lines.count ≤ length (string_bytes l.lines.text);
}
