use Rattle.std.proofs.Common.{arith}
use Rattle.vx_layout.proofs.Labels.{size-write_in}
use Rattle.vx_layout.proofs.block.label_at.Goals as goal

pub returns-in-None-clause-fits : goal.returns-in-None-clause-fits
returns-in-None-clause-fits c = omega (arith, size-write_in)
