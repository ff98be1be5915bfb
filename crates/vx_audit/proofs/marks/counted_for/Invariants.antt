use Rattle.std.proofs.Common.{◌≡◌, ◌==◌, drop}
use Rattle.std.specs.List.{find}
use Rattle.vx_tally.specs.declared.report.RecordContest.{RecordContest}
use Rattle.vx_audit.proofs.marks.counted_for.Given as goal

abbrev pub invariant-loop-counted : goal.invariant-loop-counted
invariant-loop-counted l =
    find (λ (counted : RecordContest). l.place == counted.contest) (drop l.counted-index l.counted-items)
    ≡ find (λ (counted : RecordContest). l.place == counted.contest) l.counted-items
