use Rattle.std.proofs.Common.{◌≤◌, length, string_bytes}
use Rattle.std.specs.List.{flat_map, range_with_len}
use Rattle.vx_command_cards.specs.Lines.{GotLines}
use Rattle.vx_command_cards.specs.Texts.{option_lines}
use Rattle.vx_command_cards.proofs.texts.push_choices.Given as goal

-- the lines so far
abbrev pub invariant-loop-option : goal.invariant-loop-option
invariant-loop-option l = record {
  lines : GotLines (flat_map (option_lines l.flaw l.contest) (range_with_len 0 l.option)) (string_bytes l.fn.lines.text) (string_bytes l.lines.text) l.fn.lines.count l.lines.count;
  room : l.lines.count ≤ length (string_bytes l.lines.text);
}
