use Rattle.vx_script.proofs.Held.{said_held}
use Rattle.vx_script.proofs.laws.said_events_are_held.Goals as goal

pub returns : goal.returns
returns c = said_held
