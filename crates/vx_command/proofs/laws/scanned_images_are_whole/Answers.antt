use Rattle.vx_command.proofs.Read.{scanned-whole}
use Rattle.vx_command.proofs.laws.scanned_images_are_whole.Goals as goal

pub returns : goal.returns
returns c = scanned-whole c.images_are_whole.ensures
