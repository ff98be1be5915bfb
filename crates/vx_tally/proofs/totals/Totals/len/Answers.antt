use Rattle.vx_tally.proofs.Running.{kept-count}
use Rattle.vx_tally.proofs.totals.Totals.len.Goals as goal

pub returns : goal.returns
returns c = kept-count c.self.inside.count c.self.inside.sums.entries c.args.self.now c.self.view_is
