use Rattle.vx_shared.proofs.Replaying.{have_history}
use Rattle.vx_shared.proofs.laws.lists_have_histories.Goals as goal

pub returns : goal.returns
returns c = have_history
