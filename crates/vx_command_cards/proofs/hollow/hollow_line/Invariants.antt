use Rattle.std.proofs.Common.{◌≡◌, take, string_bytes}
use Rattle.vx_command_cards.specs.Texts.{hollow_line}
use Rattle.vx_command_cards.proofs.hollow.hollow_line.Given as goal

-- the code points so far
abbrev pub invariant-loop-point : goal.invariant-loop-point
invariant-loop-point l = string_bytes l.line ≡ hollow_line l.contest l.what (take l.point-index l.points)
