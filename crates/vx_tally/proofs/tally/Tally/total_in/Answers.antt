use Rattle.std.proofs.Common.{◌∙◌, List, ap}
use Rattle.vx_tally.specs.declared.report.CvrRecord.{CvrRecord}
use Rattle.vx_tally.specs.declared.sums.Counted.TheVariants.{VotesIn}
use Rattle.vx_tally.specs.Totals.{total_in_of}
use Rattle.vx_tally.specs.Kept.{records_of}
use Rattle.vx_tally.proofs.Summed.{sum-total-in}
use Rattle.vx_tally.proofs.tally.Tally.total_in.Goals as goal

pub returns : goal.returns
returns c =
    c.sum_at.ensures ∙ c.self.invariant.summed.sums_are (VotesIn c.args.unit c.args.contest c.args.selection)
    ∙ sum-total-in (records_of c.self.inside.records.entries) c.args.unit c.args.contest c.args.selection
    ∙ ap (λ (records : List CvrRecord). total_in_of records c.args.unit c.args.contest c.args.selection) c.self.view_is
