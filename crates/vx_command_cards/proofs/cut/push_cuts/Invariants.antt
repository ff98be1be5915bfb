use Rattle.std.proofs.Common.{◌≤◌, length, string_bytes}
use Rattle.std.specs.List.{flat_map, range_with_len}
use Rattle.vx_command_cards.specs.Lines.{GotLines}
use Rattle.vx_command_cards.specs.Texts.{cut_at}
use Rattle.vx_command_cards.proofs.cut.push_cuts.Given as goal

-- the lines so far
abbrev pub invariant-loop-line : goal.invariant-loop-line
invariant-loop-line l = record {
  lines : GotLines (flat_map (cut_at l.contest l.what l.text) (range_with_len 0 l.line)) (string_bytes l.fn.lines.text) (string_bytes l.lines.text) l.fn.lines.count l.lines.count;
  room : l.lines.count ≤ length (string_bytes l.lines.text);
}
