use Rattle.vx_headline.proofs.Undecided.{waits}
use Rattle.vx_headline.proofs.laws.undecided_reasons_wait.Goals as goal

pub returns : goal.returns
returns c = waits c.marked_pages_are_exported.ensures
