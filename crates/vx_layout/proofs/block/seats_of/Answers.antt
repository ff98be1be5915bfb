use Rattle.vx_layout.proofs.Labels.{size-seats}
use Rattle.vx_layout.proofs.block.seats_of.Goals as goal

pub returns-clause-fits : goal.returns-clause-fits
returns-clause-fits c = size-seats c.args.contest.now c.requires.seats
