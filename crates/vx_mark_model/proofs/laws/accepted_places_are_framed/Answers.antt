use Rattle.vx_mark_model.proofs.Follow.{accepted_within}
use Rattle.vx_mark_model.proofs.laws.accepted_places_are_framed.Goals as goal

pub returns : goal.returns
returns c = accepted_within
