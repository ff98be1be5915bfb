use Rattle.std.proofs.Common.{◌∙◌, List, ap}
use Rattle.vx_tally.specs.declared.report.CvrRecord.{CvrRecord}
use Rattle.vx_tally.specs.declared.sums.Counted.TheVariants.{Over}
use Rattle.vx_tally.specs.Totals.{over_of}
use Rattle.vx_tally.specs.Kept.{records_of}
use Rattle.vx_tally.proofs.Summed.{sum-over}
use Rattle.vx_tally.proofs.tally.Tally.over.Goals as goal

pub returns : goal.returns
returns c =
    c.sum_at.ensures ∙ c.self.invariant.summed.sums_are (Over c.args.contest)
    ∙ sum-over (records_of c.self.inside.records.entries) c.args.contest
    ∙ ap (λ (records : List CvrRecord). over_of records c.args.contest) c.self.view_is
