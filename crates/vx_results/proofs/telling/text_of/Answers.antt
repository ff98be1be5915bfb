use Rattle.std.proofs.Common.{◌∙◌, List, ap, arith, length, subst, sym}
use Rattle.std.specs.Prelude.{All}
use Rattle.vx_tally.specs.declared.report.ReportContest.{ReportContest}
use Rattle.vx_audit.specs.Sized.{HasFew}
use Rattle.vx_results.specs.Report.{contest_of}
use Rattle.vx_results.proofs.Each.{length-mapped}
use Rattle.vx_results.proofs.Sized.{contests-few, options-there}
use Rattle.vx_results.proofs.telling.text_of.Goals as goal

pub contests_of-requires : goal.contests_of-requires
contests_of-requires c = options-there c.args.election.now c.requires

pub sums_text-requires-clause-few : goal.sums_text-requires-clause-few
sums_text-requires-clause-few c =
    let are = ap length (c.as_slice-contests.ensures ∙ c.in_ok-contests.ensures) in
    omega (arith, are, length-mapped contest_of c.args.election.now.contests, c.requires.contests.few)

pub sums_text-requires-clause-selections : goal.sums_text-requires-clause-selections
sums_text-requires-clause-selections c =
    subst (λ (contests : List ReportContest). All HasFew contests) (sym (c.as_slice-contests.ensures ∙ c.in_ok-contests.ensures))
    (contests-few c.args.election.now c.requires)
