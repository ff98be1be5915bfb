use Rattle.vx_margin.proofs.Images.{images-clear}
use Rattle.vx_margin.proofs.laws.images_have_no_deficit.Goals as goal

pub returns : goal.returns
returns c = images-clear
