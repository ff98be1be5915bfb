use Rattle.std.proofs.Common.{◌≡◌, take}
use Rattle.vx_rules.proofs.marks.copy_contests.Given as goal

abbrev pub invariant-loop-marks : goal.invariant-loop-marks
invariant-loop-marks l = l.copy.items ≡ take l.marks-index l.list
