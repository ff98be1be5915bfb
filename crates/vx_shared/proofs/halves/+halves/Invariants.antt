use Rattle.std.proofs.Common.{◌+◌, ◌*◌, length}
use Rattle.vx_shared.proofs.halves.+halves.Given as goal

abbrev pub decreases-run_halves : goal.decreases-run_halves
decreases-run_halves g l = 2 * length l.items.now

abbrev pub decreases-front : goal.decreases-front
decreases-front g l = 2 * length l.low.now + 1

abbrev pub decreases-back : goal.decreases-back
decreases-back g l = 2 * length l.high.now + 1
