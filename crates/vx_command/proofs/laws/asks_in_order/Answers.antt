use Rattle.vx_command.proofs.Asking.{ask-laws}
use Rattle.vx_command.proofs.laws.asks_in_order.Goals as goal

pub returns : goal.returns
returns g c = ask-laws c.questions_asked.ensures g.I.Inputs
