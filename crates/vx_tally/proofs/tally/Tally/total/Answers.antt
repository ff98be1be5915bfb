use Rattle.std.proofs.Common.{◌∙◌, List, ap}
use Rattle.vx_tally.specs.declared.report.CvrRecord.{CvrRecord}
use Rattle.vx_tally.specs.declared.sums.Counted.TheVariants.{Votes}
use Rattle.vx_tally.specs.Totals.{total_of}
use Rattle.vx_tally.specs.Kept.{records_of}
use Rattle.vx_tally.proofs.Summed.{sum-total}
use Rattle.vx_tally.proofs.tally.Tally.total.Goals as goal

pub returns : goal.returns
returns c =
    c.sum_at.ensures ∙ c.self.invariant.summed.sums_are (Votes c.args.contest c.args.selection)
    ∙ sum-total (records_of c.self.inside.records.entries) c.args.contest c.args.selection
    ∙ ap (λ (records : List CvrRecord). total_of records c.args.contest c.args.selection) c.self.view_is
