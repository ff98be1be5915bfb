use Rattle.vx_tally.proofs.Running.{none-up}
use Rattle.vx_tally.proofs.totals.Totals.new.Goals as goal

pub returns : goal.returns
returns c = none-up c.new.result.entries c.new.ensures.empty
