use Rattle.vx_mark.specs.Search.{IsBestSeen}
use Rattle.vx_mark.proofs.search.best_with_row.Given as goal

abbrev pub invariant-loop-u : goal.invariant-loop-u
invariant-loop-u l = IsBestSeen l.counter l.predicted l.cap l.u l.v l.best
