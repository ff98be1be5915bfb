use Rattle.vx_command.proofs.Written.{wrote-texts}
use Rattle.vx_command.proofs.laws.texts_in_order.Goals as goal

pub returns : goal.returns
returns c = wrote-texts
