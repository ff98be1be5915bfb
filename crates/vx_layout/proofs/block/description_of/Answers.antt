use Rattle.std.proofs.Common.{arith}
use Rattle.vx_layout.proofs.Labels.{size-nil}
use Rattle.vx_layout.proofs.block.description_of.Goals as goal

pub returns-else-contest-clause-fits : goal.returns-else-contest-clause-fits
returns-else-contest-clause-fits c = omega (arith, size-nil)
