use Rattle.std.proofs.Common.{◌≡◌, drop}
use Rattle.vx_layout.specs.Plan.{contests_checked}
use Rattle.vx_layout.proofs.checking.check_contests.Given as goal

-- what is left gives the answer
abbrev pub invariant-loop-number : goal.invariant-loop-number
invariant-loop-number l = contests_checked l.paper l.contests (drop l.number-index l.numbers) ≡ contests_checked l.paper l.contests l.numbers
