use Rattle.std.proofs.Common.{◌≡◌, ◌++◌, map, take}
use Rattle.vx_tally.specs.declared.report.RecordContest.{RecordContest}
use Rattle.vx_audit.proofs.places.push_counted.Given as goal

abbrev pub invariant-loop-counted : goal.invariant-loop-counted
invariant-loop-counted l =
    l.contests.items ≡ l.initial.contests.items ++ map (λ (counted : RecordContest). counted.contest) (take l.counted-index l.counted-items)
