use Rattle.vx_mark.specs.Search.{IsBestSeen}
use Rattle.vx_mark.proofs.search.best_near.Given as goal

abbrev pub invariant-loop-v : goal.invariant-loop-v
invariant-loop-v l = IsBestSeen l.counter l.predicted l.cap 0 l.v l.best
