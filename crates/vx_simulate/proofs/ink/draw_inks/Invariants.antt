use Rattle.std.proofs.Common.{◌≡◌, take}
use Rattle.vx_simulate.specs.Ink as ink
use Rattle.vx_simulate.proofs.ink.draw_inks.Given as goal

-- the ink of the marks so far
abbrev pub invariant-loop-marked : goal.invariant-loop-marked
invariant-loop-marked l = record {
  inks : l.inks.items ≡ (ink.draw_inks l.thresholds (take l.marked-index l.marks) l.fn.rng).0;
  next : l.rng ≡ (ink.draw_inks l.thresholds (take l.marked-index l.marks) l.fn.rng).1;
}
