use Rattle.std.proofs.Common.{refl}
use Rattle.vx_raster.proofs.Runs.{first_run-counted}
use Rattle.vx_raster.proofs.text.first_run.Goals as goal

pub returns : goal.returns
returns c = first_run-counted c.args.bits _ c.trailing_ones-dark.result c.requires.some c.requires.seven refl c.trailing_ones-dark.ensures
