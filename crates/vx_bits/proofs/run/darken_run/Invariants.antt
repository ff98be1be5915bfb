use Rattle.std.proofs.Common.{◌+◌, ◌*◌}
use Rattle.vx_bits.proofs.Filling.{Filled}
use Rattle.vx_bits.proofs.run.darken_run.Given as goal

abbrev pub invariant-loop-k : goal.invariant-loop-k
invariant-loop-k l = Filled l.rows l.fn.rows (8 * l.start + l.run.left) (8 * l.start + l.run.right) l.k
