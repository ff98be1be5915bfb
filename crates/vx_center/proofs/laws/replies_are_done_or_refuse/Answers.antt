use Rattle.vx_center.proofs.Answering.{done-or_refused}
use Rattle.vx_center.proofs.laws.replies_are_done_or_refuse.Goals as goal

pub returns : goal.returns
returns c = done-or_refused
