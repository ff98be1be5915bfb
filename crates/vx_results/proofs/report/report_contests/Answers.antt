use Rattle.std.proofs.Common.{List, subst, sym}
use Rattle.std.specs.Prelude.{All}
use Rattle.vx_tally.specs.declared.report.ReportContest.{ReportContest}
use Rattle.vx_audit.specs.Sized.{HasFew}
use Rattle.vx_results.proofs.Sized.{contests-few}
use Rattle.vx_results.proofs.report.report_contests.Goals as goal

pub returns-clause-selections : goal.returns-clause-selections
returns-clause-selections c =
    subst (λ (contests : List ReportContest). All HasFew contests) (sym c.in_ok-contests.ensures)
    (contests-few c.args.election.now c.requires)
