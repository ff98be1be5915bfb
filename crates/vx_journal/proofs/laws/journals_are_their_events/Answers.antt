use Rattle.vx_journal.proofs.Spelled.{their-events}
use Rattle.vx_journal.proofs.laws.journals_are_their_events.Goals as goal

pub returns : goal.returns
returns c = their-events c.records_are_read.ensures
