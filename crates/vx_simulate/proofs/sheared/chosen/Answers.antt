use Rattle.vx_simulate.proofs.Bytes.{chosen-bit}
use Rattle.vx_simulate.proofs.sheared.chosen.Goals as goal

pub returns : goal.returns
returns c = λ j h. chosen-bit c.args.here c.args.elsewhere c.args.mask j c.ranges.mask.fits h
