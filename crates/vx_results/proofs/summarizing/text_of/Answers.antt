use Rattle.std.proofs.Common.{List, subst, sym}
use Rattle.std.specs.Prelude.{All}
use Rattle.vx_tally.specs.declared.report.ReportContest.{ReportContest}
use Rattle.vx_audit.specs.Sized.{HasFew}
use Rattle.vx_results.proofs.Sized.{contests-few}
use Rattle.vx_results.proofs.summarizing.text_of.Goals as goal

pub push_contests-requires-clause-few : goal.push_contests-requires-clause-few
push_contests-requires-clause-few c =
    subst (λ (contests : List ReportContest). All HasFew contests) (sym c.requires.frame.contests) (contests-few c.args.election.now c.requires.valid)
