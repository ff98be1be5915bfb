use Rattle.std.proofs.Common.{Ok}
use Rattle.vx_base.proofs.Results.{Gives-holds}
use Rattle.vx_tally.specs.Faults.{is_no_memory}
use Rattle.vx_audit.proofs.Lengths.{report_short}
use Rattle.vx_audit.proofs.reading.read_sized.Goals as goal

pub returns-clause-sized : goal.returns-clause-sized
returns-clause-sized c =
    let short = Gives-holds is_no_memory (Ok c.in_ok-report.report) c.in_ok-report.ensures.exact (report_short c.args.bytes.now) in
    record { units = short.units; contests = short.contests; selections = short.selections; records = c.in_ok-report.ensures.countable }
