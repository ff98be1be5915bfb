use Rattle.vx_journal.proofs.Histories.{kept-history}
use Rattle.vx_journal.proofs.laws.journals_are_histories.Goals as goal

pub returns : goal.returns
returns c = kept-history
