use Rattle.std.proofs.Common.{◌≡◌, Some, map, take}
use Rattle.std.specs.Prelude.{slice_get}
use Rattle.vx_sampling.proofs.finding.drawn_of.Given as goal

abbrev pub invariant-loop-draw : goal.invariant-loop-draw
invariant-loop-draw l = map Some l.drawn.items ≡ map (slice_get l.records) (take l.draw-index l.draws)
