use Rattle.std.proofs.Common.{◌≡◌}
use Rattle.vx_simulate.specs.Draws as draws_of
use Rattle.vx_simulate.proofs.drawing.draws.Given as goal

-- the numbers so far are drawn
abbrev pub invariant-loop-n : goal.invariant-loop-n
invariant-loop-n l = record {
  numbers : l.numbers.items ≡ (draws_of.draws l.n l.bound l.fn.rng).0;
  next : l.rng ≡ (draws_of.draws l.n l.bound l.fn.rng).1;
}
