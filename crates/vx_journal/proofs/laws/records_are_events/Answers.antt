use Rattle.vx_journal.proofs.Fronts.{kept-as}
use Rattle.vx_journal.proofs.laws.records_are_events.Goals as goal

pub returns : goal.returns
returns c = kept-as
