use Rattle.vx_gray.proofs.Sizes.{images_sized}
use Rattle.vx_gray.proofs.laws.images_are_sized.Goals as goal

pub returns : goal.returns
returns c = images_sized
