use Rattle.vx_journal.proofs.Writers.{written}
use Rattle.vx_journal.proofs.laws.texts_are_of_journals.Goals as goal

pub returns : goal.returns
returns c = written c.texts_in_order.ensures c.records_in_order.ensures
