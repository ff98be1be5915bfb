use Rattle.std.proofs.Common.{◌≡◌, drop}
use Rattle.vx_layout.specs.Plan.{long_in}
use Rattle.vx_layout.proofs.checking.long_name.Given as goal

-- what is left gives the answer
abbrev pub invariant-loop-choice : goal.invariant-loop-choice
invariant-loop-choice l = long_in (drop l.choice-index l.choices) ≡ long_in l.choices
