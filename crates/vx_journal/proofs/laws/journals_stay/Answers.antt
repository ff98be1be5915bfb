use Rattle.vx_journal.proofs.Standing.{keeper_holds}
use Rattle.vx_journal.proofs.laws.journals_stay.Goals as goal

pub returns : goal.returns
returns c = keeper_holds
