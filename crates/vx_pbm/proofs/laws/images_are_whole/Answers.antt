use Rattle.vx_pbm.proofs.WholePages.{images_whole}
use Rattle.vx_pbm.proofs.laws.images_are_whole.Goals as goal

pub returns : goal.returns
returns c = images_whole
