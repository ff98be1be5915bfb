use Rattle.vx_simulate.proofs.Bytes.{eight-bit}
use Rattle.vx_simulate.proofs.sheared.eight_from.Goals as goal

pub returns : goal.returns
returns c = λ i h. eight-bit c.args.first c.args.second c.args.skip i c.ranges.second.fits c.requires h
