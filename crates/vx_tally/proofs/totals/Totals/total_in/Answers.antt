use Rattle.std.proofs.Common.{◌∙◌}
use Rattle.vx_tally.proofs.Running.{kept-votes_in}
use Rattle.vx_tally.proofs.totals.Totals.total_in.Goals as goal

pub returns : goal.returns
returns c =
    c.sum_at.ensures ∙ kept-votes_in c.self.inside.count c.self.inside.sums.entries c.args.self.now c.self.view_is c.args.unit c.args.contest c.args.selection
