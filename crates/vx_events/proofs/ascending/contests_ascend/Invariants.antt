use Rattle.std.proofs.Common.{◌≡◌, drop}
use Rattle.vx_events.specs.Ascending.{ascends_from, is_ascending}
use Rattle.vx_events.specs.Fits.{contests_of}
use Rattle.vx_events.proofs.ascending.contests_ascend.Given as goal

abbrev pub invariant-loop-marks : goal.invariant-loop-marks
invariant-loop-marks l = ascends_from l.least (contests_of (drop l.marks-index l.contests)) ≡ is_ascending (contests_of l.contests)
