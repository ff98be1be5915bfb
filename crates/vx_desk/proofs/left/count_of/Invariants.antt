use Rattle.std.proofs.Common.{◌≡◌, ◌≤◌, ◌+◌, drop, length}
use Rattle.std.specs.Prelude.{filter}
use Rattle.vx_center.specs.Waiting.{contest_waits}
use Rattle.vx_desk.proofs.left.count_of.Given as goal

-- those counted, and those left that wait, are all
abbrev pub invariant-loop-marks : goal.invariant-loop-marks
invariant-loop-marks l = record {
  counted : l.count + length (filter (contest_waits l.center.election l.center.events l.key l.sheet_blank) (drop l.marks-index l.contests))
      ≡ length (filter (contest_waits l.center.election l.center.events l.key l.sheet_blank) l.contests);
  few : l.count ≤ l.marks-index;
}
