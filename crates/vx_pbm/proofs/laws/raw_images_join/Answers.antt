use Rattle.vx_pbm.proofs.Joins.{joins_raw_images}
use Rattle.vx_pbm.proofs.laws.raw_images_join.Goals as goal

pub returns : goal.returns
returns c = joins_raw_images
