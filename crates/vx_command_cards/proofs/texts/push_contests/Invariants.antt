use Rattle.std.proofs.Common.{◌≤◌, length, take, string_bytes}
use Rattle.std.specs.List.{flat_map}
use Rattle.vx_command_cards.specs.Lines.{GotLines}
use Rattle.vx_command_cards.specs.Texts.{contest_lines}
use Rattle.vx_command_cards.proofs.texts.push_contests.Given as goal

-- the lines of the contests so far
abbrev pub invariant-loop-contest : goal.invariant-loop-contest
invariant-loop-contest l = record {
  lines : GotLines (flat_map (contest_lines l.flaw) (take l.contest-index l.election.contests)) (string_bytes l.fn.lines.text) (string_bytes l.lines.text) l.fn.lines.count l.lines.count;
  room : l.lines.count ≤ length (string_bytes l.lines.text);
}
