use Rattle.std.proofs.Common.{◌≡◌}
use Rattle.vx_script.specs.Options.{among_below}
use Rattle.vx_script.proofs.numbers.options_of.Given as goal

-- the options so far
abbrev pub invariant-loop-option : goal.invariant-loop-option
invariant-loop-option l = l.list.items ≡ among_below l.option l.numbers
