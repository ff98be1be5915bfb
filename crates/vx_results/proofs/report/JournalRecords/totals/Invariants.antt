use Rattle.std.proofs.Common.{take}
use Rattle.vx_tally.specs.Running.{SumsUp}
use Rattle.vx_results.proofs.report.JournalRecords.totals.Given as goal

abbrev pub invariant-loop-at : goal.invariant-loop-at
invariant-loop-at l = SumsUp (take l.at l.self) l.totals
