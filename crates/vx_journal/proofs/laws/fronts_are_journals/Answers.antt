use Rattle.vx_journal.proofs.Fronts.{front}
use Rattle.vx_journal.proofs.laws.fronts_are_journals.Goals as goal

pub returns : goal.returns
returns c = front
