use Rattle.std.proofs.Common.{◌≡◌, ◌+◌, length}
use Rattle.vx_shared.specs.Gained.{calls_in}
use Rattle.vx_shared.proofs.halves.calls_for.Given as goal

abbrev pub invariant-loop-item : goal.invariant-loop-item
invariant-loop-item g l = l.calls + calls_in (g.W.Work.calls l.work) l.rest ≡ calls_in (g.W.Work.calls l.work) l.items

abbrev pub decreases-loop-item : goal.decreases-loop-item
decreases-loop-item g l = length l.rest
