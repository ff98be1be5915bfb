use Rattle.std.proofs.Common.{take}
use Rattle.vx_center.specs.Sheets.{sheets_in}
use Rattle.vx_results.specs.Telling.{AreCounted}
use Rattle.vx_results.proofs.counting.count_sheets.Given as goal

abbrev pub invariant-loop-place : goal.invariant-loop-place
invariant-loop-place l = AreCounted l.election l.center.events (take l.place (sheets_in l.center.events)) l.counted
