use Rattle.std.proofs.Common.{◌≡◌}
use Rattle.vx_simulate.specs.Draws as draws_of
use Rattle.vx_simulate.proofs.drawing.draw_places.Given as goal

-- the places so far are drawn
abbrev pub invariant-loop-n : goal.invariant-loop-n
invariant-loop-n l = record {
  places : l.places.items ≡ (draws_of.draw_places l.n l.width l.height l.fn.rng).0;
  next : l.rng ≡ (draws_of.draw_places l.n l.width l.height l.fn.rng).1;
}
