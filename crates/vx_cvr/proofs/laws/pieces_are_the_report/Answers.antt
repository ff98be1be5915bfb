use Rattle.vx_cvr.proofs.Joined.{pieces_joined}
use Rattle.vx_cvr.proofs.laws.pieces_are_the_report.Goals as goal

pub returns : goal.returns
returns c = pieces_joined
