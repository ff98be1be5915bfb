use Rattle.std.proofs.Common.{◌≡◌, drop}
use Rattle.std.specs.List.{list_all}
use Rattle.vx_events.specs.Fits.{is_read}
use Rattle.vx_events.proofs.fitting.are_read.Given as goal

abbrev pub invariant-loop-marks : goal.invariant-loop-marks
invariant-loop-marks l = list_all (is_read l.election) (drop l.marks-index l.contests) ≡ list_all (is_read l.election) l.contests
