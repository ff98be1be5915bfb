use Rattle.std.proofs.Common.{◌-◌, ◌≤◌, drop, take}
use Rattle.std.specs.Prelude.{All}
use Rattle.vx_words.specs.Words.{IsArgument}
use Rattle.vx_words.proofs.arguments.are_arguments.Given as goal

-- the words from there on and before the index are arguments
abbrev pub invariant-loop-index : goal.invariant-loop-index
invariant-loop-index l = All IsArgument (take (l.index - l.from) (drop l.from l.words)) × (l.from ≤ l.index)
