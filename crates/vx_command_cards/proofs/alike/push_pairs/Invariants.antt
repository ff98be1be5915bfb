use Rattle.std.proofs.Common.{◌≤◌, length, string_bytes}
use Rattle.std.specs.List.{flat_map, range_with_len}
use Rattle.vx_command_cards.specs.Lines.{GotLines}
use Rattle.vx_command_cards.specs.Alike.{choice_pairs}
use Rattle.vx_command_cards.proofs.alike.push_pairs.Given as goal

-- the lines so far
abbrev pub invariant-loop-first : goal.invariant-loop-first
invariant-loop-first l = record {
  lines : GotLines (flat_map (choice_pairs l.contest) (range_with_len 0 l.first)) (string_bytes l.fn.lines.text) (string_bytes l.lines.text) l.fn.lines.count l.lines.count;
  room : l.lines.count ≤ length (string_bytes l.lines.text);
}
