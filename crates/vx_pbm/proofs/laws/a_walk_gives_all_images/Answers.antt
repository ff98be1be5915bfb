use Rattle.vx_pbm.proofs.Whole.{walks_all}
use Rattle.vx_pbm.proofs.laws.a_walk_gives_all_images.Goals as goal

pub returns : goal.returns
returns c = walks_all
