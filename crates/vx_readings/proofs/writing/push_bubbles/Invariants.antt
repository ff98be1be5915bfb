use Rattle.std.proofs.Common.{◌≡◌, ◌++◌, string_bytes}
use Rattle.std.specs.List.{flat_map, range_with_len}
use Rattle.vx_readings.specs.ReadingText.{line_at}
use Rattle.vx_readings.proofs.writing.push_bubbles.Given as goal

-- the lines of the bubbles so far
abbrev pub invariant-loop-number : goal.invariant-loop-number
invariant-loop-number l =
    string_bytes l.text ≡ string_bytes l.initial.text ++ flat_map (line_at l.bubbles l.scores l.states) (range_with_len 0 l.number)
