use Rattle.std.proofs.Common.{◌≡◌, count_by, take}
use Rattle.vx_command_demo.specs.Sums.{has}
use Rattle.vx_command_demo.proofs.reasons.count_of.Given as goal

-- the count of the contests so far
abbrev pub invariant-loop-marks : goal.invariant-loop-marks
invariant-loop-marks l = l.count ≡ count_by (has l.election l.blank l.reason) (take l.marks-index l.contests)
