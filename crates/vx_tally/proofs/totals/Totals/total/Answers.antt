use Rattle.std.proofs.Common.{◌∙◌}
use Rattle.vx_tally.proofs.Running.{kept-votes}
use Rattle.vx_tally.proofs.totals.Totals.total.Goals as goal

pub returns : goal.returns
returns c =
    c.sum_at.ensures ∙ kept-votes c.self.inside.count c.self.inside.sums.entries c.args.self.now c.self.view_is c.args.contest c.args.selection
