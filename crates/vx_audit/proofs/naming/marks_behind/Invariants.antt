use Rattle.std.proofs.Common.{◌≡◌, [], length}
use Rattle.vx_audit.specs.Hand.{marks_behind}
use Rattle.vx_audit.proofs.naming.marks_behind.Given as goal

abbrev pub invariant-marks : goal.invariant-marks
invariant-marks l = marks_behind l.selections l.places l.words ≡ marks_behind l.selections [] l.initial.words

abbrev pub decreases-marks : goal.decreases-marks
decreases-marks l = length l.words
