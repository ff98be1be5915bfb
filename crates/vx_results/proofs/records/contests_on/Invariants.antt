use Rattle.std.proofs.Common.{◌≡◌, map, take}
use Rattle.vx_results.specs.Report.{counted_in}
use Rattle.vx_results.proofs.records.contests_on.Given as goal

abbrev pub invariant-loop-counted : goal.invariant-loop-counted
invariant-loop-counted l = l.made.items ≡ map (counted_in l.election) (take l.counted-index l.finals)
