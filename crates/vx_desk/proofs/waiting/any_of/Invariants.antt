use Rattle.std.proofs.Common.{◌≡◌, drop}
use Rattle.std.specs.List.{list_any}
use Rattle.vx_center.specs.Waiting.{contest_waits}
use Rattle.vx_desk.proofs.waiting.any_of.Given as goal

-- one of those left waits where one of all does
abbrev pub invariant-loop-marks : goal.invariant-loop-marks
invariant-loop-marks l =
    list_any (contest_waits l.center.election l.center.events l.key l.sheet_blank) (drop l.marks-index l.contests)
    ≡ list_any (contest_waits l.center.election l.center.events l.key l.sheet_blank) l.contests
