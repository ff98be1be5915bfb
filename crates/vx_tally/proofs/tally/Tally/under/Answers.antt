use Rattle.std.proofs.Common.{◌∙◌, List, ap}
use Rattle.vx_tally.specs.declared.report.CvrRecord.{CvrRecord}
use Rattle.vx_tally.specs.declared.sums.Counted.TheVariants.{Under}
use Rattle.vx_tally.specs.Totals.{under_of}
use Rattle.vx_tally.specs.Kept.{records_of}
use Rattle.vx_tally.proofs.Summed.{sum-under}
use Rattle.vx_tally.proofs.tally.Tally.under.Goals as goal

pub returns : goal.returns
returns c =
    c.sum_at.ensures ∙ c.self.invariant.summed.sums_are (Under c.args.contest)
    ∙ sum-under (records_of c.self.inside.records.entries) c.args.contest
    ∙ ap (λ (records : List CvrRecord). under_of records c.args.contest) c.self.view_is
