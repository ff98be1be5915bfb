use Rattle.std.proofs.Common.{◌≡◌, ◌*◌, ◌≤◌, take}
use Rattle.std.specs.Prelude.{sum_by}
use Rattle.vx_rounds.proofs.deciding.total.Given as goal

abbrev pub invariant-loop-count : goal.invariant-loop-count
invariant-loop-count l = (l.total ≡ sum_by (λ count. count.1) (take l.count-index l.counts)) × (l.total ≤ l.count-index * 4294967295)
