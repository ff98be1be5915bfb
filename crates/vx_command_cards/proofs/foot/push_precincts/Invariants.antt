use Rattle.std.proofs.Common.{◌≤◌, length, take, string_bytes}
use Rattle.std.specs.List.{flat_map}
use Rattle.vx_command_cards.specs.Lines.{GotLines}
use Rattle.vx_command_cards.specs.Texts.{precinct_lines}
use Rattle.vx_command_cards.proofs.foot.push_precincts.Given as goal

-- the lines of the precincts so far
abbrev pub invariant-loop-precinct : goal.invariant-loop-precinct
invariant-loop-precinct l = record {
  lines : GotLines (flat_map (precinct_lines l.flaw) (take l.precinct-index l.election.precincts)) (string_bytes l.fn.lines.text) (string_bytes l.lines.text) l.fn.lines.count l.lines.count;
  room : l.lines.count ≤ length (string_bytes l.lines.text);
}
