use Rattle.std.proofs.Common.{◌≡◌, ◌++◌, length}
use Rattle.vx_script.specs.Options.{and_then, numbers_in}
use Rattle.std.specs.Prelude.{Some}
use Rattle.vx_script.proofs.numbers.numbers.Given as goal

-- the numbers so far, and those to come
abbrev pub invariant-loop-words : goal.invariant-loop-words
invariant-loop-words l = numbers_in l.most l.fn.words ≡ and_then (numbers_in l.most l.words) (λ numbers. Some (l.list ++ numbers))

abbrev pub decreases-loop-words : goal.decreases-loop-words
decreases-loop-words l = length l.words
