use Rattle.std.proofs.Common.{◌≡◌, ℕ}
use Rattle.std.specs.List.{range_with_len}
use Rattle.vx_simulate.specs.Draws.{draw_all, draw_places}
use Rattle.vx_simulate.proofs.flips.draw_lists.Given as goal

-- the lists so far are drawn
abbrev pub invariant-loop-n : goal.invariant-loop-n
invariant-loop-n l = record {
  lists : l.drawn.items ≡ (draw_all (λ (n : ℕ). draw_places l.many l.width l.height) (range_with_len 0 l.n) l.fn.rng).0;
  next : l.rng ≡ (draw_all (λ (n : ℕ). draw_places l.many l.width l.height) (range_with_len 0 l.n) l.fn.rng).1;
}
