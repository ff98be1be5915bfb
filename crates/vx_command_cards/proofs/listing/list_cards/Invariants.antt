use Rattle.std.proofs.Common.{◌≤◌, [], length, string_bytes}
use Rattle.std.specs.List.{flat_map, range_with_len}
use Rattle.vx_command_cards.specs.Cards.{card_at_line}
use Rattle.vx_command_cards.specs.Lines.{GotLines}
use Rattle.vx_command_cards.proofs.listing.list_cards.Given as goal

-- the lines of the cards so far
abbrev pub invariant-loop-number : goal.invariant-loop-number
invariant-loop-number l = record {
  lines : GotLines (flat_map (card_at_line l.election) (range_with_len 0 l.number)) [] (string_bytes l.lines.text) 0 l.lines.count;
  room : l.lines.count ≤ length (string_bytes l.lines.text);
}
