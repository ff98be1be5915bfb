use Rattle.std.proofs.Common.{◌≤◌, ◌<◌, ℕ, [], get_or}
use Rattle.vx_words.specs.Words.{IsArgument}
use Rattle.vx_command_gray.proofs.reading.are_arguments.Given as goal

-- the words from 1 on and before the index are arguments
abbrev pub invariant-loop-index : goal.invariant-loop-index
invariant-loop-index l = (k : ℕ) → 1 ≤ k → k < l.index → IsArgument (get_or l.words k [])
