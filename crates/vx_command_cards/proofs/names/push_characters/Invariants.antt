use Rattle.std.proofs.Common.{◌≡◌, ◌++◌, take, string_bytes}
use Rattle.std.specs.List.{flat_map}
use Rattle.vx_command_cards.specs.Cards.{told_character}
use Rattle.vx_command_cards.proofs.names.push_characters.Given as goal

-- the characters so far
abbrev pub invariant-loop-c : goal.invariant-loop-c
invariant-loop-c l = string_bytes l.line ≡ string_bytes l.fn.line ++ flat_map told_character (take l.c-index l.characters)
