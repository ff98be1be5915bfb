use Rattle.std.proofs.Common.{◌∙◌}
use Rattle.vx_tally.proofs.Running.{kept-under}
use Rattle.vx_tally.proofs.totals.Totals.under.Goals as goal

pub returns : goal.returns
returns c =
    c.sum_at.ensures ∙ kept-under c.self.inside.count c.self.inside.sums.entries c.args.self.now c.self.view_is c.args.contest
