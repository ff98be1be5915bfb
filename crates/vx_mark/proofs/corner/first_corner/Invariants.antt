use Rattle.vx_mark.specs.Search.{IsFirstAbove}
use Rattle.vx_mark.proofs.corner.first_corner.Given as goal

abbrev pub invariant-loop-v : goal.invariant-loop-v
invariant-loop-v l = IsFirstAbove l.counter l.v l.corner
