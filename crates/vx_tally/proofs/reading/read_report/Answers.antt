use Rattle.serde_json.specs.View.{view}
use Rattle.vx_base.proofs.Results.{Gives-holds}
use Rattle.vx_tally.specs.Faults.{is_no_memory}
use Rattle.vx_tally.proofs.Readings.{report_holds}
use Rattle.vx_tally.proofs.reading.read_report.Goals as goal

pub returns-clause-countable : goal.returns-clause-countable
returns-clause-countable c =
    Gives-holds is_no_memory c.report_of.result c.report_of.ensures (report_holds (view c.in_ok-value.value))
